-- Lines that were written, or a part of them.
use Rattle.std.proofs.Common.{◌∙◌, ℕ, List, ◌++◌, sym, ap, append_assoc, inl, inr, Option, Result, Ok, Err}
use Rattle.std.specs.Io.KnownBytes.{Appends}
use Rattle.pk_command.specs.Endings.{IsTold}
use Rattle.pk_shell.proofs.Parts.{appends_then}
use Rattle.pk_shell.specs.Sending.{Sent, SentPart}

pub told : {T E : Type 0} (e e' : Option (List ℕ)) (result : Result T E) (line : List ℕ) → Sent e e' result line
    → IsTold e e' line
told e e' (Ok x) line sent = inl sent
told e e' (Err x) line part = inr part

-- all of the first text was written, and a part of the second
pub stopped_then : (w w1 w2 : Option (List ℕ)) (a b : List ℕ) → Appends w w1 a → SentPart w1 w2 b → SentPart w w2 (a ++ b)
stopped_then w w1 w2 a b first s = record {
  part = a ++ s.part;
  missing = s.missing;
  some_missing = s.some_missing;
  whole = ap (λ t. a ++ t) s.whole ∙ sym (append_assoc a s.part s.missing);
  written = appends_then w w1 w2 a s.part first s.written;
}

-- two texts in turn, by how the second call ended
pub sent_then : {T E : Type 0} (w w1 w2 : Option (List ℕ)) (result : Result T E) (a b : List ℕ) → Appends w w1 a → Sent w1 w2 result b → Sent w w2 result (a ++ b)
sent_then w w1 w2 (Ok x) a b first second = appends_then w w1 w2 a b first second
sent_then w w1 w2 (Err e) a b first second = stopped_then w w1 w2 a b first second

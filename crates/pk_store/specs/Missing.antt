-- Why no document of a number is told, whatever the bytes are; and what is told where no segment
-- reaches over it.
use Rattle.std.specs.Prelude.{◌≡◌, ℕ, true, false, List, string_bytes, Result, Ok, Err, String}
use Rattle.std.specs.declared.alloc.Global.{Global}
use Rattle.pk_model.specs.declared.commands.Refusal.{Refusal}
use Rattle.pk_model.specs.declared.commands.Refusal.TheVariants.{NoSuchDocument, Memory}
use Rattle.pk_model.specs.Collection.{Doc, is_live}
use Rattle.pk_model.specs.Steps.{text_of}
use Rattle.pk_open.specs.Seeking.{IsUnknown}
use Rattle.pk_store.specs.View.{StoreView}

-- No uncommitted document has the number; and no committed one was told to have it.
pub record IsMissing {D : Type 0} (s : StoreView D) (n : ℕ) : Type 0 where
  pub buffered : is_live n s.buffer ≡ false
  pub stored : IsUnknown s.volume.opened n

-- the text of the uncommitted document of a number, none exactly where none has it, or no memory
abbrev pub ShowsBuffered : List Doc → ℕ → Result (String Global) Refusal → Type 0
ShowsBuffered buffer n (Ok text) =
    (is_live n buffer ≡ true) × (string_bytes text ≡ text_of n buffer)
ShowsBuffered buffer n (Err NoSuchDocument) = is_live n buffer ≡ false
ShowsBuffered buffer n (Err Memory) = is_live n buffer ≡ true
ShowsBuffered buffer n (Err why) = ⊥

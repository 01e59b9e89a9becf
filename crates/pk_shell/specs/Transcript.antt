-- What serve has done so far, in the words of its private functions.
use Rattle.std.specs.Prelude.{◌≡◌, ◌<◌, ℕ, Bool, true, false, List, [], ◌∷◌, ◌++◌, length}
use Rattle.std.specs.Prelude.{Option, None, Some, Result, Ok, Err, IfOk}
use Rattle.std.specs.List.{flat_map, AllByRecursion}
use Rattle.std.specs.Io.KnownBytes.{Appends}
use Rattle.pk_shell.specs.Asked.{Asked, held_of, is_quit}
use Rattle.pk_shell.specs.Lines.{with_feed, HasNoFeed}
use Rattle.pk_shell.specs.Script.{Script, spelled}
use Rattle.pk_shell.specs.Sending.{Sent}
use Rattle.pk_shell.specs.declared.ending.Ended.{Ended}
use Rattle.pk_shell.specs.declared.ending.Ended.TheVariants.{Quit, InputEnd}

-- what is held of a line after more bytes of it
abbrev pub held_after : Option (List ℕ) → List ℕ → Option (List ℕ)
held_after None bytes = None
held_after (Some line) bytes = held_of (line ++ bytes)

-- one line was answered, or its reply was cut short
pub record AnswersLine {S E : Type 0} (Replies : S → Asked → List ℕ → S → Type 0)
    (what : Asked) (s s' : S) (w w' : Option (List ℕ)) (result : Result Bool E) : Type 0 where
  pub reply : List ℕ
  pub is_reply : Replies s what reply s'
  pub sent : Sent w w' result (with_feed reply)
  pub quits : IfOk result (λ q. q ≡ is_quit what)

-- these bytes were read: their whole lines are answered, none of them a quit, and the rest is held
pub record Transcript {S : Type 0} (Replies : S → Asked → List ℕ → S → Type 0)
    (s0 : S) (w0 : Option (List ℕ)) (read : List ℕ) (held : Option (List ℕ))
    (s : S) (w : Option (List ℕ)) : Type 0 where
  pub lines : List (List ℕ)
  pub rest : List ℕ
  pub replies : List (List ℕ)
  pub read_is : read ≡ flat_map with_feed lines ++ rest
  pub no_feed : AllByRecursion HasNoFeed lines
  pub no_feed_rest : HasNoFeed rest
  pub held_is : held ≡ held_of rest
  pub script : Script Replies s0 lines replies s InputEnd
  pub written : Appends w0 w (spelled replies)

-- the last of the lines answered is a quit
pub record HasQuit {S : Type 0} (Replies : S → Asked → List ℕ → S → Type 0)
    (s0 : S) (w0 : Option (List ℕ)) (read : List ℕ) (s : S) (w : Option (List ℕ)) : Type 0 where
  pub lines : List (List ℕ)
  pub more : List ℕ
  pub replies : List (List ℕ)
  pub read_is : read ≡ flat_map with_feed lines ++ more
  pub no_feed : AllByRecursion HasNoFeed lines
  pub script : Script Replies s0 lines replies s Quit
  pub written : Appends w0 w (spelled replies)

-- the last of the lines executed has a part of its reply
pub record IsCut {S : Type 0} (Replies : S → Asked → List ℕ → S → Type 0)
    (s0 : S) (w0 : Option (List ℕ)) (read : List ℕ) (s : S) (w : Option (List ℕ)) : Type 0 where
  pub lines : List (List ℕ)
  pub more : List ℕ
  pub how : Ended
  pub replies : List (List ℕ)
  pub last : List ℕ
  pub part : List ℕ
  pub missing : List ℕ
  pub some_missing : 0 < length missing
  pub read_is : read ≡ flat_map with_feed lines ++ more
  pub no_feed : AllByRecursion HasNoFeed lines
  pub script : Script Replies s0 lines (replies ++ last ∷ []) s how
  pub cut : with_feed last ≡ part ++ missing
  pub written : Appends w0 w (spelled replies ++ part)

-- more bytes came, whatever came before them
abbrev pub Continues : {S : Type 0} → (S → Asked → List ℕ → S → Type 0)
    → Option (List ℕ) → S → Option (List ℕ) → List ℕ → Option (List ℕ) → S → Option (List ℕ)
    → Type 0
Continues {S} Replies h s w chunk h' s' w' = (s0 : S) (w0 : Option (List ℕ)) (read : List ℕ)
    → Transcript Replies s0 w0 read h s w → Transcript Replies s0 w0 (read ++ chunk) h' s' w'

-- more bytes came, and a line that ended in them was a quit
abbrev pub Quits : {S : Type 0} → (S → Asked → List ℕ → S → Type 0)
    → Option (List ℕ) → S → Option (List ℕ) → List ℕ → S → Option (List ℕ) → Type 0
Quits {S} Replies h s w chunk s' w' = (s0 : S) (w0 : Option (List ℕ)) (read : List ℕ)
    → Transcript Replies s0 w0 read h s w → HasQuit Replies s0 w0 (read ++ chunk) s' w'

-- more bytes came, and the reply to a line that ended in them was cut short
abbrev pub IsCutOff : {S : Type 0} → (S → Asked → List ℕ → S → Type 0)
    → Option (List ℕ) → S → Option (List ℕ) → List ℕ → S → Option (List ℕ) → Type 0
IsCutOff {S} Replies h s w chunk s' w' = (s0 : S) (w0 : Option (List ℕ)) (read : List ℕ)
    → Transcript Replies s0 w0 read h s w → IsCut Replies s0 w0 (read ++ chunk) s' w'

-- more bytes came, by how the call ended
abbrev pub AnswersLines : {S E : Type 0} → (S → Asked → List ℕ → S → Type 0)
    → Option (List ℕ) → S → Option (List ℕ) → List ℕ → Result Bool E → Option (List ℕ) → S
    → Option (List ℕ) → Type 0
AnswersLines Replies h s w chunk (Ok false) h' s' w' = Continues Replies h s w chunk h' s' w'
AnswersLines Replies h s w chunk (Ok true) h' s' w' = Quits Replies h s w chunk s' w'
AnswersLines Replies h s w chunk (Err e) h' s' w' = IsCutOff Replies h s w chunk s' w'

-- a front of the chunk was taken in, and this is the rest of it
pub record IsTakenTo {S : Type 0} (Replies : S → Asked → List ℕ → S → Type 0)
    (h : Option (List ℕ)) (s : S) (w : Option (List ℕ)) (chunk rest : List ℕ)
    (h' : Option (List ℕ)) (s' : S) (w' : Option (List ℕ)) : Type 0 where
  pub front : List ℕ
  pub split : chunk ≡ front ++ rest
  pub continues : Continues Replies h s w front h' s' w'

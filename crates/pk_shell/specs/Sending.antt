-- What of a text has reached a writer.
use Rattle.std.specs.Prelude.{◌≡◌, ℕ, ◌<◌, List, [], ◌++◌, length, Option, Result}
use Rattle.std.specs.Prelude.{MatchResult}
use Rattle.std.specs.Io.KnownBytes.{Appends}

-- a part of the text was written, and bytes of it are missing
pub record SentPart (w w' : Option (List ℕ)) (text : List ℕ) : Type 0 where
  pub part : List ℕ
  pub missing : List ℕ
  pub some_missing : 0 < length missing
  pub whole : text ≡ part ++ missing
  pub written : Appends w w' part

-- the text was written, or a part of it where the writer failed
abbrev pub Sent : {T E : Type 0} → Option (List ℕ) → Option (List ℕ) → Result T E → List ℕ
    → Type 0
Sent w w' result text = MatchResult result (λ _. Appends w w' text) (λ _. SentPart w w' text)

-- since the writer stood at w0 the text was put: a part of it is written, the rest waits in the
-- outbox
pub record IsUnderWay (w0 w : Option (List ℕ)) (outbox text : List ℕ) : Type 0 where
  pub part : List ℕ
  pub written : Appends w0 w part
  pub whole : text ≡ part ++ outbox

-- a text was put behind what was under way
abbrev pub HasPut : List ℕ → Option (List ℕ) → List ℕ → Option (List ℕ) → List ℕ → Type 0
HasPut outbox w outbox' w' text = (w0 : Option (List ℕ)) (before : List ℕ)
    → IsUnderWay w0 w outbox before → IsUnderWay w0 w' outbox' (before ++ text)

-- the writer failed, at a part of what was under way and this text
abbrev pub HasStopped : List ℕ → Option (List ℕ) → Option (List ℕ) → List ℕ → Type 0
HasStopped outbox w w' text = (w0 : Option (List ℕ)) (before : List ℕ)
    → IsUnderWay w0 w outbox before → SentPart w0 w' (before ++ text)

-- a call puts a text, or the writer failed
abbrev pub Puts : {T E : Type 0} → List ℕ → Option (List ℕ) → Result T E → List ℕ
    → Option (List ℕ) → List ℕ → Type 0
Puts outbox w result outbox' w' text =
    MatchResult result (λ _. HasPut outbox w outbox' w' text) (λ _. HasStopped outbox w w' text)

-- all that was under way is written, and nothing waits
abbrev pub HasFlushed : List ℕ → Option (List ℕ) → List ℕ → Option (List ℕ) → Type 0
HasFlushed outbox w outbox' w' =
    ((w0 : Option (List ℕ)) (text : List ℕ) → IsUnderWay w0 w outbox text → Appends w0 w' text)
    × (outbox' ≡ [])

-- a call writes all that waits, or the writer failed
abbrev pub Flushes : {T E : Type 0} → List ℕ → Option (List ℕ) → Result T E → List ℕ
    → Option (List ℕ) → Type 0
Flushes outbox w result outbox' w' =
    MatchResult result (λ _. HasFlushed outbox w outbox' w') (λ _. HasStopped outbox w w' [])

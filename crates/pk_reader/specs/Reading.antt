-- What a reader answers, by the bytes of its file as they were when it was asked, and as they are.
use Rattle.std.specs.Prelude.{◌≡◌, ◌⊎◌, ◌≤◌, Bool, true, false, ℕ, List, Result, Ok, Err}
use Rattle.pk_manifest.specs.Evolves.{Evolves, in_force}
use Rattle.pk_manifest.specs.declared.half.Half.{Half}
use Rattle.pk_model.specs.Collection.{Collection, is_live}
use Rattle.pk_model.specs.Steps.{Request, Answer, answer_to, show}
use Rattle.pk_model.specs.declared.commands.Refusal.{Refusal}
use Rattle.pk_model.specs.declared.commands.Refusal.TheVariants.{NoSuchDocument, Memory, Damaged}
use Rattle.pk_model.specs.declared.commands.Refusal.TheVariants.{Disk}
use Rattle.pk_reader.specs.Refused.{ShowsUnsound}
use Rattle.pk_snapshot.specs.Found.{HasNoBody}
use Rattle.pk_snapshot.specs.Shown.{ShowsBody}
use Rattle.pk_state.specs.Holds.{Holds}
use Rattle.pk_store.specs.Steps.{OnRefusal}

-- it asks for the text of a document
abbrev pub is_show : Request → Bool
is_show (show n) = true
is_show request = false

-- the document that it asks for is not one of the collection's
abbrev pub IsMissingFrom : Request → Collection → Type 0
IsMissingFrom (show n) c = is_live n c.documents ≡ false
IsMissingFrom request c = Unit {0}

-- THE REPLY IS RIGHT FOR A COLLECTION: the answer is that of the collection, and a document that is
-- told to be missing is. Damage is right for none. A failure of memory or the disk says nothing.
abbrev pub IsRightFor : Request → Result Answer Refusal → Collection → Type 0
IsRightFor request (Ok answer) c = answer ≡ answer_to request c
IsRightFor request (Err NoSuchDocument) c = IsMissingFrom request c
IsRightFor request (Err Damaged) c = ⊥
IsRightFor request (Err why) c = Unit {0}

-- the refusals of a reader
abbrev pub reads_refuse : Request → Refusal → Bool
reads_refuse request NoSuchDocument = is_show request
reads_refuse request Memory = true
reads_refuse request Damaged = true
reads_refuse request Disk = true
reads_refuse request why = false

abbrev pub IsNamed : Request → Result Answer Refusal → Type 0
IsNamed request outcome = OnRefusal outcome (λ why. reads_refuse request why ≡ true)

-- WHAT A REPLY IS READ FROM: a body that stood behind an open gate at a moment before now, no older
-- than what was in force when it was asked. For each collection that its bytes hold it is right.
pub record IsReadFrom (asked now : List ℕ) (Right : Collection → Type 0) : Type 0 where
  pub moment : List ℕ
  pub until : Evolves moment now
  pub half : Half
  pub generation : ℕ
  pub fresh : in_force asked ≤ generation
  pub content : List ℕ
  pub shows : ShowsBody moment content half generation
  pub right : (c : Collection) → Holds content c → Right c

-- The bytes were no store's at a moment before now, behind a gate that was open over a generation no
-- older than what was in force when it was asked.
pub record WasUnsound (asked now : List ℕ) : Type 0 where
  pub moment : List ℕ
  pub until : Evolves moment now
  pub unsound : HasNoBody asked moment ⊎ ShowsUnsound asked moment

-- an answer, that a document is missing, and damage is read from a body; or there is none that opens
abbrev pub ReadsAs : List ℕ → List ℕ → Request → Result Answer Refusal → Type 0
ReadsAs asked now request (Ok answer) = IsReadFrom asked now (IsRightFor request (Ok answer))
ReadsAs asked now request (Err NoSuchDocument) =
    IsReadFrom asked now (IsRightFor request (Err NoSuchDocument))
ReadsAs asked now request (Err Damaged) =
    IsReadFrom asked now (IsRightFor request (Err Damaged)) ⊎ WasUnsound asked now
ReadsAs asked now request (Err why) = Unit {0}

-- A STEP OF A READER, from the bytes of its file as it was asked to those that it has then. On every
-- file a refusal is one of its own.
pub record ReadStep (honest : Type 0) (asked : List ℕ) (request : Request)
    (outcome : Result Answer Refusal) (now : List ℕ) : Type 0 where
  pub named : IsNamed request outcome
  pub reads : honest → ReadsAs asked now request outcome

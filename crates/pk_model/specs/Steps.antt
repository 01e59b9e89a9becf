-- What each command does to the collection and what it replies, where it is not refused.
use Rattle.std.specs.Prelude.{ℕ, ◌+◌, not, List, [], ◌∷◌, ◌++◌, filter, length, if◌then◌else◌}
use Rattle.pk_model.specs.Tree.{Tree}
use Rattle.pk_model.specs.Collection.{Doc, Collection, has_number, answer}

-- a command, without where it lies in memory
pub data Request : Type 0 where
  add : (text : List ℕ) → Request
  delete : (number : ℕ) → Request
  find : (query : Tree) → Request
  show : (number : ℕ) → Request
  commit : Request
  merge : Request
  tidy : Request
  count : Request

-- the reply to a command that is accepted
pub data Answer : Type 0 where
  added : (number : ℕ) → Answer
  deleted : (number : ℕ) → Answer
  found : (numbers : List ℕ) → Answer
  text_is : (text : List ℕ) → Answer
  committed : Answer
  merged : Answer
  tidied : Answer
  counted : (documents next : ℕ) → Answer

-- the text of the first document of the number
abbrev pub text_of : ℕ → List Doc → List ℕ
text_of n [] = []
text_of n (d ∷ docs) = if has_number n d then d.text else text_of n docs

-- the collection after a command that is accepted
abbrev pub after_one : Request → Collection → Collection
after_one (add text) c = record { next = c.next + 1; documents = c.documents ++ record { number = c.next; text = text } ∷ [] }
after_one (delete n) c = record { next = c.next; documents = filter (λ d. not (has_number n d)) c.documents }
after_one (find query) c = c
after_one (show n) c = c
after_one commit c = c
after_one merge c = c
after_one tidy c = c
after_one count c = c

-- its reply
abbrev pub answer_to : Request → Collection → Answer
answer_to (add text) c = added c.next
answer_to (delete n) c = deleted n
answer_to (find query) c = found (answer query c.documents)
answer_to (show n) c = text_is (text_of n c.documents)
answer_to commit c = committed
answer_to merge c = merged
answer_to tidy c = tidied
answer_to count c = counted (length c.documents) c.next

-- the step of a command that is accepted: the collection and the reply
abbrev pub step : Request → Collection → Collection × Answer
step request c = (after_one request c, answer_to request c)

-- the collection after commands, the first of them first
abbrev pub after : List Request → Collection → Collection
after [] c = c
after (request ∷ requests) c = after requests (after_one request c)

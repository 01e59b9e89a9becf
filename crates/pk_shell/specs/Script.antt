-- Legal scripts, over any engine: S is what it means, Replies says which reply lines are right, to
-- what a line asks. Of one that takes each command Step says which of its steps are legal.
use Rattle.std.specs.Prelude.{◌≡◌, ℕ, ◌⊎◌, ◌<◌, ◌≤◌, ◌+◌, ◌^◌, List, [], ◌∷◌, ◌++◌, codes, length}
use Rattle.std.specs.Prelude.{Option, None, Some, Result, Ok, Err, MatchBool}
use Rattle.std.specs.List.{flat_map, AllByRecursion}
use Rattle.std.specs.Io.KnownBytes.{Appends, Consumes, IsAtEnd}
use Rattle.pk_model.specs.Tree.{Tree}
use Rattle.pk_model.specs.Steps.{Request, Answer, find}
use Rattle.pk_model.specs.declared.commands.Refusal.{Refusal}
use Rattle.pk_query.specs.Refusals.{IsQuery, Refuses}
use Rattle.pk_query.specs.declared.fault.QueryFault.{QueryFault}
use Rattle.pk_shell.specs.Asked.{Asked, refuses, does, queries, quits, asked, is_quit}
use Rattle.pk_shell.specs.ReplyText.{reply_text, fault_text}
use Rattle.pk_shell.specs.Lines.{lines_of, with_feed, HasNoFeed}
use Rattle.pk_shell.specs.declared.ending.Ended.{Ended}
use Rattle.pk_shell.specs.declared.ending.Ended.TheVariants.{Quit, InputEnd}
use Rattle.pk_shell.specs.declared.ending.ShellFault.{ShellFault}
use Rattle.pk_shell.specs.declared.ending.ShellFault.TheVariants.{Input, Output, TooManyReads}
use Rattle.pk_shell.specs.declared.ending.ShellFault.TheVariants.{Memory}

-- the reply line to what a line asks, without its line feed
abbrev pub IsReply : {S : Type 0} → (S → Request → Result Answer Refusal → S → Type 0)
    → S → Asked → List ℕ → S → Type 0
IsReply Step s (refuses why) reply s' = (reply ≡ codes "refused " ++ why) × (s' ≡ s)
IsReply Step s quits reply s' = (reply ≡ codes "bye") × (s' ≡ s)
IsReply Step s (does request) reply s' =
    (outcome : Result Answer Refusal) × Step s request outcome s' × (reply ≡ reply_text outcome)
-- a query text that reads as a query is found, and any other gets its fault; one that reads may
-- find no memory
IsReply Step s (queries text) reply s' =
    ((query : Tree) × (outcome : Result Answer Refusal) × IsQuery text query
    × Step s (find query) outcome s' × (reply ≡ reply_text outcome))
    ⊎ ((fault : QueryFault) × Refuses text fault
    × (reply ≡ codes "refused " ++ fault_text fault) × (s' ≡ s))

-- THE LEGAL SCRIPT: each line has its reply; after a quit nothing is answered.
abbrev pub Script : {S : Type 0} → (S → Asked → List ℕ → S → Type 0)
    → S → List (List ℕ) → List (List ℕ) → S → Ended → Type 0
Script Replies s [] [] s' how = (s' ≡ s) × (how ≡ InputEnd)
Script {S} Replies s (line ∷ lines) (reply ∷ replies) s' how =
    (mid : S) × Replies s (asked line) reply mid
    × MatchBool (is_quit (asked line)) ((replies ≡ []) × (s' ≡ mid) × (how ≡ Quit))
    (Script Replies mid lines replies s' how)
Script Replies s [] (reply ∷ replies) s' how = ⊥
Script Replies s (line ∷ lines) [] s' how = ⊥

-- each reply with its line feed
abbrev pub spelled : List (List ℕ) → List ℕ
spelled replies = flat_map with_feed replies

-- at Quit and InputEnd: what was written is a legal script's replies to what was read.
pub record Served {S : Type 0} (Replies : S → Asked → List ℕ → S → Type 0)
    (s : S) (r r' w w' : Option (List ℕ)) (how : Ended) (s' : S) : Type 0 where
  pub read : List ℕ
  pub consumed : Consumes r r' read
  pub at_end : how ≡ InputEnd → IsAtEnd r'
  pub replies : List (List ℕ)
  pub script : Script Replies s (lines_of read) replies s' how
  pub written : Appends w w' (spelled replies)

-- at Input: the replies to the whole lines read so far.
pub record Broken {S : Type 0} (Replies : S → Asked → List ℕ → S → Type 0)
    (s : S) (r r' w w' : Option (List ℕ)) (s' : S) : Type 0 where
  pub lines : List (List ℕ)
  pub rest : List ℕ
  pub no_feed : AllByRecursion HasNoFeed lines × HasNoFeed rest
  pub consumed : Consumes r r' (flat_map with_feed lines ++ rest)
  pub replies : List (List ℕ)
  pub script : Script Replies s lines replies s' InputEnd
  pub written : Appends w w' (spelled replies)

-- at Output: the replies to the lines executed, of which the last one is cut short.
pub record CutShort {S : Type 0} (Replies : S → Asked → List ℕ → S → Type 0)
    (s : S) (r r' w w' : Option (List ℕ)) (s' : S) : Type 0 where
  pub read : List ℕ
  pub consumed : Consumes r r' read
  pub lines : List (List ℕ)
  pub others : List (List ℕ)
  pub executed : lines_of read ≡ lines ++ others
  pub how : Ended
  pub replies : List (List ℕ)
  pub last : List ℕ
  pub script : Script Replies s lines (replies ++ last ∷ []) s' how
  pub part : List ℕ
  pub missing : List ℕ
  pub some_missing : 0 < length missing
  pub cut : with_feed last ≡ part ++ missing
  pub written : Appends w w' (spelled replies ++ part)

-- at TooManyReads: the same, and at least 2^40 bytes were read.
pub record Overlong {S : Type 0} (Replies : S → Asked → List ℕ → S → Type 0)
    (s : S) (r r' w w' : Option (List ℕ)) (s' : S) : Type 0 where
  pub answered : Broken Replies s r r' w w' s'
  pub many : 2 ^ 40 ≤ length (flat_map with_feed answered.lines ++ answered.rest)

-- at Memory: nothing was read or written
pub record IsUntouched {S : Type 0} (s : S) (r r' w w' : Option (List ℕ)) (s' : S) : Type 0 where
  pub reader : r' ≡ r
  pub writer : w' ≡ w
  pub state : s' ≡ s

-- no more than so many bytes were taken from a reader, where its bytes are known
abbrev pub TakesAtMost : ℕ → Option (List ℕ) → Option (List ℕ) → Type 0
TakesAtMost most None new = Unit {0}
TakesAtMost most (Some xs) None = ⊥
TakesAtMost most (Some xs) (Some ys) = length xs ≤ length ys + most

-- THE SHELL'S THEOREM, by how it ends
abbrev pub EndsAs : {S : Type 0} → (S → Asked → List ℕ → S → Type 0)
    → S → Option (List ℕ) → Option (List ℕ) → Option (List ℕ) → Option (List ℕ)
    → Result Ended ShellFault → S → Type 0
EndsAs Replies s r r' w w' (Ok how) s' = Served Replies s r r' w w' how s'
EndsAs Replies s r r' w w' (Err Input) s' = Broken Replies s r r' w w' s'
EndsAs Replies s r r' w w' (Err TooManyReads) s' = Overlong Replies s r r' w w' s'
EndsAs Replies s r r' w w' (Err Output) s' = CutShort Replies s r r' w w' s'
EndsAs Replies s r r' w w' (Err Memory) s' = IsUntouched s r r' w w' s'

-- the same of an engine that takes each command, by its steps
abbrev pub Ends : {S : Type 0} → (S → Request → Result Answer Refusal → S → Type 0)
    → S → Option (List ℕ) → Option (List ℕ) → Option (List ℕ) → Option (List ℕ)
    → Result Ended ShellFault → S → Type 0
Ends Step s r r' w w' result s' = EndsAs (IsReply Step) s r r' w w' result s'

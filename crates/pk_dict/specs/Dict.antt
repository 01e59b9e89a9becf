-- What a dictionary in memory shows, and what it answers.
use Rattle.std.specs.Prelude.{◌≡◌, ◌^◌, ℕ, List, length, Option, Result, Ok, Err, nat_lt, if◌then◌else◌}
use Rattle.std.specs.Global.{Vec}
use Rattle.pk_posting.specs.declared.source.SourceFault.{SourceFault}
use Rattle.pk_posting.specs.declared.source.SourceFault.TheVariants as faults
use Rattle.pk_dict.specs.declared.dict.Dict.{Dict}
use Rattle.pk_dict.specs.declared.entry.DictFault.{DictFault}
use Rattle.pk_dict.specs.declared.entry.DictFault.TheVariants.{Damaged, Memory}
use Rattle.pk_dict.specs.declared.entry.Entry.{Entry}
use Rattle.pk_dict.specs.Dictionary.{Item}
use Rattle.pk_dict.specs.Entries.{entries_at, items_from}
use Rattle.pk_dict.specs.LookUp.{look_up_at}

-- its bytes
abbrev pub dict_bytes : Dict → List ℕ
dict_bytes d = d.bytes.now

-- the number of terms that it was opened with
abbrev pub dict_terms : Dict → ℕ
dict_terms d = d.terms

-- what it says of a term: bytes that no u32 counts are damage
unfoldable pub term_says : List ℕ → ℕ → List ℕ → Result (Option Entry) SourceFault
term_says bytes terms term =
    if nat_lt (length bytes) (2 ^ 32) then look_up_at bytes terms term else Err faults.Damaged

-- what it says of a prefix
unfoldable pub prefix_says : List ℕ → ℕ → List ℕ → Result (List Item) SourceFault
prefix_says bytes terms prefix =
    if nat_lt (length bytes) (2 ^ 32) then entries_at bytes terms prefix else Err faults.Damaged

-- a look-up answers what the bytes say, and takes no memory
abbrev pub Answers : Result (Option Entry) DictFault → Result (Option Entry) SourceFault → Type 0
Answers (Ok entry) read = read ≡ Ok entry
Answers (Err Damaged) read = read ≡ Err faults.Damaged
Answers (Err Memory) read = ⊥

-- a prefix search answers what the bytes say, unless memory failed
abbrev pub Lists : Result (Vec (Vec ℕ × Entry)) DictFault → Result (List Item) SourceFault → Type 0
Lists (Ok v) read = read ≡ Ok (items_from v.items)
Lists (Err Damaged) read = read ≡ Err faults.Damaged
Lists (Err Memory) read = Unit {0}

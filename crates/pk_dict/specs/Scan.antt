-- What is left of a scan of a group's terms.
use Rattle.std.specs.Prelude.{◌≡◌, ◌≤◌, ◌<◌, ℕ, List, Option, Result, Ok}
use Rattle.pk_posting.specs.declared.source.SourceFault.{SourceFault}
use Rattle.pk_dict.specs.declared.entry.Entry.{Entry}
use Rattle.pk_dict.specs.declared.head.TermsLeft.{TermsLeft}
use Rattle.pk_dict.specs.declared.head.Scan.{Scan}
use Rattle.pk_dict.specs.declared.head.Scan.TheVariants.{Open, Done}
use Rattle.pk_dict.specs.Reading.{scan_at}

-- the wanted term among the terms that a scan has not come to
abbrev pub scan_left : List ℕ → List ℕ → TermsLeft → Result (Option Entry) SourceFault
scan_left bytes term a = scan_at a.count bytes term a.matched a.at

-- what is left of a scan gives what all of it gives
abbrev pub Leaves : List ℕ → List ℕ → Result (Option Entry) SourceFault → Scan → Type 0
Leaves bytes term all (Open a) = all ≡ scan_left bytes term a
Leaves bytes term all (Done entry) = all ≡ Ok entry

-- fewer terms are left than so many, and no more is matched than the wanted term has
abbrev pub IsFewer : ℕ → ℕ → Scan → Type 0
IsFewer count n (Open a) = (a.count < count) × (a.matched ≤ n)
IsFewer count n (Done entry) = Unit {0}

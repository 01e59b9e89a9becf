-- What a group's first term says of a search in a dictionary.
use Rattle.std.proofs.Common.{arith, refl, sym, subst, ◌∙◌, ◌≡◌, ◌<◌, ◌+◌, ◌-◌, ◌*◌, ℕ, List, length, Ok, Err, Option, Result}
use Rattle.std.specs.Prelude.{MatchResult}
use Rattle.pk_posting.specs.declared.source.SourceFault.{SourceFault}
use Rattle.pk_posting.specs.declared.source.SourceFault.TheVariants as faults
use Rattle.pk_dict.specs.declared.entry.Entry.{Entry}
use Rattle.pk_dict.specs.declared.head.Between.{Between}
use Rattle.pk_dict.specs.declared.head.Search.{Search}
use Rattle.pk_dict.specs.declared.head.Search.TheVariants.{Open, Done}
use Rattle.pk_dict.specs.declared.head.Standing.{Standing}
use Rattle.pk_dict.specs.declared.head.Standing.TheVariants.{First}
use Rattle.pk_dict.specs.declared.head.Step.{Step}
use Rattle.pk_dict.specs.declared.head.Step.TheVariants.{Less, Found, Past}
use Rattle.pk_dict.specs.Dictionary.{Item, DictSpells, entry_of, group_count}
use Rattle.pk_dict.specs.LookUp.{narrow_at, scanned, standing_at}
use Rattle.pk_dict.specs.Reading.{Fails, Gives, group_at}
use Rattle.pk_dict.specs.Search.{IsAmid, IsKnown, IsStanding, Known}
use Rattle.pk_dict.proofs.Bounds.{group_law}
use Rattle.pk_dict.proofs.Ends.{known_less, known_past, scan_gives, some_item}
use Rattle.pk_dict.proofs.LookUpLaw.{Stood, narrow_law, scanned_law, standing_law}

-- what the search knows once the first term of a group was read
abbrev pub after : Step → Between → ℕ → Search
after (Less matched next) b group = Open (record { low = group + 1; high = b.high; matched = matched; next = next; node = b.node })
after (Found entry) b group = Done (First group entry)
after Past b group = Open (record { low = b.low; high = group; matched = b.matched; next = b.next; node = b.node })

-- the groups of a dictionary of so many terms begin there
here : (bytes : List ℕ) (es : List Item) (term : List ℕ) (terms group : ℕ) (r : Result Step SourceFault) → length es ≡ terms → group_at bytes (4 * group_count terms) group term ≡ r
    → group_at bytes (4 * group_count (length es)) group term ≡ r
here bytes es term terms group r len is = rw len is

-- a step of a dictionary's fails by what lies below alone
pub probe_fails : (bytes : List ℕ) (es : List Item) (term : List ℕ) (terms group : ℕ) (e : SourceFault) → DictSpells bytes es → length es ≡ terms → group < group_count terms
    → Fails e (group_at bytes (4 * group_count terms) group term) → e ≡ faults.Disk
probe_fails bytes es term terms group faults.Disk d len lt fails = refl
probe_fails bytes es term terms group faults.Damaged d len lt fails =
    let some : 16 * group < length es = omega (arith, lt, len) in
    let s = some_item (16 * group) es some in
    let g = group_law bytes es group term s.0 s.1.0 d some s.1.1 in
    let no = sym g.step ∙ here bytes es term terms group (Err faults.Damaged) len fails in
    absurd cc

-- and if not, it says what the search knows then
pub probe_found : (bytes : List ℕ) (es : List Item) (term : List ℕ) (terms group : ℕ) (s : Step) (b : Between) → DictSpells bytes es → length es ≡ terms → group < group_count terms
    → group_at bytes (4 * group_count terms) group term ≡ Ok s → Known bytes es term b.low b.high b.matched b.next → IsKnown bytes es term (after s b group)
probe_found bytes es term terms group s b d len lt is k = by s (here bytes es term terms group (Ok s) len is)
  where
    by : (s : Step) → group_at bytes (4 * group_count (length es)) group term ≡ Ok s → IsKnown bytes es term (after s b group)
    by (Less matched next) at = known_less bytes es term b.low b.high b.matched b.next group matched next d k (omega (arith, lt, len)) at
    by (Found entry) at = (omega (arith, lt, len), at)
    by Past at = known_past bytes es term b.low b.high b.matched b.next group d k (omega (arith, lt, len)) at

abbrev done : Standing → Result Standing SourceFault
done s = Ok s

same_standing : (x y : Standing) → done x ≡ done y → x ≡ y
same_standing x y e = cc

stood_as : (bytes : List ℕ) (es : List Item) (term : List ℕ) (read r : Result Standing SourceFault) → Stood bytes es term read → Gives r read → MatchResult r (IsStanding bytes es term) (λ e. e ≡ faults.Disk)
stood_as bytes es term read (Ok standing) stood is = subst (IsStanding bytes es term) (same_standing _ _ (sym stood.is ∙ is)) stood.stands
stood_as bytes es term read (Err faults.Disk) stood is = refl
stood_as bytes es term read (Err faults.Damaged) stood is = let no = sym stood.is ∙ is in absurd cc

-- a search that goes on ends well
pub goes_on_well : (bytes : List ℕ) (es : List Item) (term : List ℕ) (terms : ℕ) (b : Between) (r : Result Standing SourceFault) → DictSpells bytes es → length es ≡ terms → IsAmid (group_count terms) (length term) b
    → Known bytes es term b.low b.high b.matched b.next → Gives r (narrow_at (b.high - b.low) bytes (4 * group_count terms) term b.low b.high b.matched b.next)
    → MatchResult r (IsStanding bytes es term) (λ e. e ≡ faults.Disk)
goes_on_well bytes es term terms b r d len amid k gives =
    let stood = narrow_law (b.high - b.low) bytes es term d b.low b.high b.matched b.next k amid.order (omega (arith, amid.most, len)) (omega arith) in
    stood_as bytes es term _ r stood (subst (λ (n : ℕ). Gives r (narrow_at (b.high - b.low) bytes (4 * group_count n) term b.low b.high b.matched b.next)) (sym len) gives)

-- the search among all groups ends well
pub ends_well : (bytes : List ℕ) (es : List Item) (term : List ℕ) (terms : ℕ) (r : Result Standing SourceFault) → DictSpells bytes es → length es ≡ terms → Gives r (standing_at bytes terms term) → MatchResult r (IsStanding bytes es term) (λ e. e ≡ faults.Disk)
ends_well bytes es term terms r d len gives =
    stood_as bytes es term _ r (standing_law bytes es term d) (subst (λ (n : ℕ). Gives r (standing_at bytes n term)) (sym len) gives)

-- and where it ends the entry is said
pub says_entry : (bytes : List ℕ) (es : List Item) (term : List ℕ) (terms : ℕ) (s : Standing) (r : Result (Option Entry) SourceFault) → DictSpells bytes es → length es ≡ terms → IsStanding bytes es term s → Gives r (scanned bytes terms term s)
    → MatchResult r (λ x. x ≡ entry_of es term) (λ e. e ≡ faults.Disk)
says_entry bytes es term terms s r d len stands gives =
    scan_gives r _ (entry_of es term) (scanned_law bytes es term s d stands) (subst (λ (n : ℕ). Gives r (scanned bytes n term s)) (sym len) gives)

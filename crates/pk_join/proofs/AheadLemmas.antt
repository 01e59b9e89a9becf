-- What was read of the extents of all inputs.
use Rattle.std.proofs.Common.{◌≡◌, ◌∙◌, ℕ, zero, suc, List, [], ◌∷◌, get_or, slice_index, refl, sym, ap, subst, arith}
use Rattle.std.specs.Prelude.{All}
use Rattle.std.proofs.lemmas.List.Elements.{All-cons, All-head, All-tail}
use Rattle.pk_dict.specs.Place.{bytes_at}
use Rattle.pk_dict.proofs.SaidLaw.{first_said}
use Rattle.pk_disk.specs.Units.{extent_bytes}
use Rattle.pk_segment.specs.Ahead.{HoldsOf}
use Rattle.pk_segment.specs.declared.ahead.Ahead.{Ahead}
use Rattle.pk_segment.proofs.AheadLemmas.{holds_none}
use Rattle.pk_join.specs.declared.input.MergeInput.{MergeInput}
use Rattle.pk_join.specs.declared.lists.InputLists.{InputLists}
use Rattle.pk_join.specs.declared.lists.InputLists.TheVariants.{Stored, Indexed}
use Rattle.pk_join.specs.declared.walk_input.Input.{Input}
use Rattle.pk_join.specs.Counted.{passed_by}
use Rattle.pk_join.specs.Inputs.{HasSameBytes}
use Rattle.pk_join.specs.Listed.{AreFresh, read_of}
use Rattle.pk_join.specs.Reading.{HaveRead}
use Rattle.pk_join.specs.WalkInput.{HaveExtentsOf, Holds, IsBefore, StandsAs, passed_in, passed_of}
use Rattle.pk_disk.specs.declared.units.Extent.{Extent}

-- before the first word nothing was read
fresh_read : (own : List ℕ) (l : InputLists) → AreFresh l → HaveRead own l
fresh_read own (Stored words postings marks) fresh = first_said (bytes_at own words.place) words fresh
fresh_read own (Indexed words marks) fresh = tt

fresh_zero : (l : InputLists) → AreFresh l → read_of l ≡ 0
fresh_zero (Stored words postings marks) fresh = fresh.read
fresh_zero (Indexed words marks) fresh = fresh

-- nor of an input
pub hold_start : (bytes : List ℕ) (is : List Input) → All IsBefore is → All (Holds bytes) is
hold_start bytes is start k d lt =
    let x = get_or is k d in
    let before = start k d lt in
    record {
      ahead = holds_none (extent_bytes bytes x.extent) x.ahead before.ahead;
      words = fresh_read (extent_bytes bytes x.extent) x.lists before.lists;
    }

pub before_zero : (x : Input) → IsBefore x → passed_in x ≡ 0
before_zero x before = ap (λ b. passed_by b (read_of x.lists)) before.stands ∙ fresh_zero x.lists before.lists

pub passed_zero : (is : List Input) → All IsBefore is → (i : ℕ) → slice_index (passed_of is) i ≡ 0
passed_zero [] start i = refl
passed_zero (x ∷ is) start zero = before_zero x (All-head IsBefore x is start)
passed_zero (x ∷ is) start (suc i) = passed_zero is (All-tail IsBefore x is start) i

-- what was read of an extent was read of the same bytes
pub holds_same : (bytes bytes' : List ℕ) (x : Input) → extent_bytes bytes' x.extent ≡ extent_bytes bytes x.extent
    → Holds bytes x → Holds bytes' x
holds_same bytes bytes' x same holds = record {
  ahead = subst (λ (l : List ℕ). HoldsOf l x.ahead) (sym same) holds.ahead;
  words = subst (λ (l : List ℕ). HaveRead l x.lists) (sym same) holds.words;
}

-- what was read of an input was read of one that is the same
pub holds_as : (bytes : List ℕ) (x y : Input) → y.extent ≡ x.extent → y.lists ≡ x.lists → y.ahead ≡ x.ahead
    → Holds bytes x → Holds bytes y
holds_as bytes x y extent lists ahead holds =
    let own = extent_bytes bytes in
    record {
      ahead = subst (λ (e : Extent). HoldsOf (own e) y.ahead) (sym extent)
          (subst (λ (a : Ahead). HoldsOf (own x.extent) a) (sym ahead) holds.ahead);
      words = subst (λ (e : Extent). HaveRead (own e) y.lists) (sym extent)
          (subst (λ (l : InputLists). HaveRead (own x.extent) l) (sym lists) holds.words);
    }

-- also where its list was read
pub holds_join : (bytes bytes' : List ℕ) (x y : Input) → bytes' ≡ bytes → StandsAs x y → Holds bytes x
    → HoldsOf (extent_bytes bytes' y.extent) y.ahead → Holds bytes' y
holds_join bytes bytes' x y same stands holds ahead = record {
  ahead = ahead;
  words = subst (λ (b : List ℕ). HaveRead (extent_bytes b y.extent) y.lists) (sym same)
      (subst (λ (e : Extent). HaveRead (extent_bytes bytes e) y.lists) (sym stands.extent)
      (subst (λ (l : InputLists). HaveRead (extent_bytes bytes x.extent) l) (sym stands.lists) holds.words));
}

-- where the inputs have the same bytes
pub hold_same : (bytes bytes' : List ℕ) (given : List MergeInput) (is : List Input) → HaveExtentsOf given is
    → All (HasSameBytes bytes bytes') given → All (Holds bytes) is → All (Holds bytes') is
hold_same bytes bytes' [] [] extents same hold = λ k d lt. absurd (omega (arith, lt))
hold_same bytes bytes' [] (x ∷ is) extents same hold = absurd (cc)
hold_same bytes bytes' (m ∷ given) [] extents same hold = absurd (cc)
hold_same bytes bytes' (m ∷ given) (x ∷ is) extents same hold =
    let first : m.extent ≡ x.extent = cc in
    let rest : HaveExtentsOf given is = cc in
    let e = subst (λ (y : Extent). extent_bytes bytes' y ≡ extent_bytes bytes y) first
    (All-head (HasSameBytes bytes bytes') m given same) in
    let here = holds_same bytes bytes' x e (All-head (Holds bytes) x is hold) in
    All-cons (Holds bytes') x is here
    (hold_same bytes bytes' given is rest (All-tail (HasSameBytes bytes bytes') m given same)
    (All-tail (Holds bytes) x is hold))

-- A row rests on the lists of its words: what takes a document asks each of them.
use Rattle.std.proofs.Common.{◌≡◌, ◌∙◌, ◌&&◌, ◌+◌, ◌<◌, inl, inr, cond, nat_lt, ℕ, zero, suc, Bool, true, false, true≢false, List, [], ◌∷◌, ◌++◌, length, map, take, drop, get_or, refl, sym, ap, subst, arith, append_assoc, length-append, length-take, get_or-take}
use Rattle.std.specs.List.{list_all, list_any}
use Rattle.std.specs.Simd.Lanes.{Each1}
use Rattle.std.specs.Prelude.{String, string_bytes}
use Rattle.std.specs.Str.{bytes_eq}
use Rattle.std.specs.String.{string_eq}
use Rattle.std.specs.declared.alloc.Global.{Global}
use Rattle.std.proofs.lemmas.List.{get_or_default}
use Rattle.std.proofs.lemmas.Slice.Eq.{bytes_eq-Decides}
use Rattle.std.proofs.Math.Seq.{drop-append_seam, take-append_seam}
use Rattle.pk_model.specs.Tree.{And, Or, Tree}
use Rattle.pk_plan.specs.declared.operands.Operands.{Operands}
use Rattle.pk_plan.specs.declared.operands.PhrasePlaces.{PhrasePlaces}
use Rattle.pk_plan.specs.declared.plans.Plan.{Plan}
use Rattle.pk_plan.specs.Operands.{IsPassed, all_take}
use Rattle.pk_plan.specs.Plans.{Both, Holding, InRow, Nothing, Operation, prefix_at, both_all, either_all, operation_of, row_at, takes, word_at}
use Rattle.pk_plan.proofs.WordLemmas.{same_row}
use Rattle.pk_plan.specs.Words.{leaves}
use Rattle.pk_plan.specs.Rows.{AllRest, GathersRest, HasEach, IsNarrowed, IsPutOnce, JoinsRest, OperandsRest, RestsOnWords, StandAt, has_each, row_of}

-- ---- TRUTH

pub and_left : (a b : Bool) → (a && b) ≡ true → a ≡ true
and_left true b e = refl
and_left false b e = e

pub and_right : (a b : Bool) → (a && b) ≡ true → b ≡ true
and_right true b e = e
and_right false b e = absurd (true≢false (sym e))

-- ---- OPERATIONS of words and of several

pub word_rests : (asked : List (List ℕ)) (place : ℕ) → RestsOnWords (word_at asked place)
word_rests [] place = tt
word_rests (w ∷ asked) zero = tt
word_rests (w ∷ asked) (suc place) = word_rests asked place

pub prefix_rests : (asked : List (List ℕ)) (place : ℕ) → RestsOnWords (prefix_at asked place)
prefix_rests [] place = tt
prefix_rests (w ∷ asked) zero = tt
prefix_rests (w ∷ asked) (suc place) = prefix_rests asked place

both_rest : (os : List Operation) → Each1 RestsOnWords os → RestsOnWords (both_all os)
both_rest [] each = tt
both_rest (o ∷ []) each = (each.0, tt)
both_rest (o ∷ p ∷ os) each = (each.0, both_rest (p ∷ os) each.1)

either_rest : (os : List Operation) → Each1 RestsOnWords os → RestsOnWords (either_all os)
either_rest [] each = tt
either_rest (o ∷ os) each = (each.0, either_rest os each.1)

parts_rest : (asked : List (List ℕ)) (parts : List Plan) → AllRest asked parts
    → Each1 RestsOnWords (map (operation_of asked) parts)
parts_rest asked [] all = tt
parts_rest asked (p ∷ parts) all = (all.0, parts_rest asked parts all.1)

places_rest : (asked : List (List ℕ)) (places : List ℕ) (os : List Operation) → Each1 RestsOnWords os
    → Each1 RestsOnWords (map (word_at asked) places ++ os)
places_rest asked [] os each = each
places_rest asked (p ∷ places) os each = (word_rests asked p, places_rest asked places os each)

pub intersection_rests : (asked : List (List ℕ)) (places : List ℕ) (parts : List Plan)
    → AllRest asked parts
    → RestsOnWords (both_all (map (word_at asked) places ++ map (operation_of asked) parts))
intersection_rests asked places parts all =
    both_rest _ (places_rest asked places _ (parts_rest asked parts all))

pub union_rests : (asked : List (List ℕ)) (plans : List Plan) → AllRest asked plans
    → RestsOnWords (either_all (map (operation_of asked) plans))
union_rests asked plans all = either_rest _ (parts_rest asked plans all)

-- ---- PHRASES stand beside what takes their words

beside_on : (b : Bool) (left : Operation) (row : List (List ℕ)) → RestsOnWords left
    → ((words : List (List ℕ)) → takes left words ≡ true → has_each row words ≡ true)
    → RestsOnWords (Both left (cond b Nothing (InRow row)))
beside_on true left row rests each = (rests, tt)
beside_on false left row rests each = (rests, each)

pub row_rests : (asked : List (List ℕ)) (left : Operation) (p : PhrasePlaces) → RestsOnWords left
    → ((words : List (List ℕ)) → takes left words ≡ true → has_each (row_of asked p) words ≡ true)
    → RestsOnWords (Both left (row_at asked p.first p.count))
row_rests asked left p = beside_on (nat_lt (length asked) (p.first + p.count)) left (row_of asked p)

-- ---- WORDS of a row among those that are asked

word_first : (row behind : List (List ℕ)) (i : ℕ) → i < length row
    → word_at (row ++ behind) i ≡ Holding (get_or row i [])
word_first [] behind i lt = absurd (omega (arith, lt))
word_first (w ∷ row) behind zero lt = refl
word_first (w ∷ row) behind (suc i) lt = word_first row behind i (omega (arith, lt))

word_behind : (before : List (List ℕ)) (row behind : List (List ℕ)) (i : ℕ) → i < length row
    → word_at (before ++ (row ++ behind)) (length before + i) ≡ Holding (get_or row i [])
word_behind [] row behind i lt =
    let e : length {A = List ℕ} [] + i ≡ i = omega arith in
    ap (word_at (row ++ behind)) e ∙ word_first row behind i lt
word_behind (v ∷ before) row behind i lt =
    let e : length (v ∷ before) + i ≡ suc (length before + i) = omega arith in
    ap (word_at (v ∷ (before ++ (row ++ behind)))) e ∙ word_behind before row behind i lt

pub word_of_row : (asked row : List (List ℕ)) (first i : ℕ) → StandAt asked first row → i < length row
    → word_at asked (first + i) ≡ Holding (get_or row i [])
word_of_row asked row first i stand lt =
    ap (λ (all : List (List ℕ)). word_at all (first + i)) stand.all
    ∙ ap (λ (n : ℕ). word_at (stand.before ++ (row ++ stand.behind)) (n + i)) (sym stand.place)
    ∙ word_behind stand.before row stand.behind i lt

pub row_stands : (asked row : List (List ℕ)) (p : PhrasePlaces) → p.count ≡ length row
    → StandAt asked p.first row → row_of asked p ≡ row
row_stands asked row p count stand =
    ap (λ (n : ℕ). take n (drop p.first asked)) count
    ∙ ap (λ (all : List (List ℕ)). take (length row) (drop p.first all)) stand.all
    ∙ ap (λ (n : ℕ). take (length row) (drop n (stand.before ++ (row ++ stand.behind)))) (sym stand.place)
    ∙ ap (take (length row)) (drop-append_seam stand.before (row ++ stand.behind))
    ∙ take-append_seam row stand.behind

pub stand_left : (asked left right : List (List ℕ)) (from : ℕ) → StandAt asked from (left ++ right)
    → StandAt asked from left
stand_left asked left right from stand = record {
  before = stand.before;
  behind = right ++ stand.behind;
  place = stand.place;
  all = stand.all ∙ ap (λ (l : List (List ℕ)). stand.before ++ l) (append_assoc left right stand.behind);
}

pub stand_right : (asked left right : List (List ℕ)) (from at : ℕ) → from + length left ≡ at
    → StandAt asked from (left ++ right) → StandAt asked at right
stand_right asked left right from at is stand = record {
  before = stand.before ++ left;
  behind = stand.behind;
  place = length-append stand.before left ∙ ap (λ (n : ℕ). n + length left) stand.place ∙ is;
  all = stand.all ∙ ap (λ (l : List (List ℕ)). stand.before ++ l) (append_assoc left right stand.behind)
      ∙ sym (append_assoc stand.before left (right ++ stand.behind));
}

-- ---- EACH WORD of a row is asked once its first of the same words is

-- what a document has of a row, up to a place
abbrev has_word : List (List ℕ) → List (List ℕ) → ℕ → Bool
has_word row words i = list_any (bytes_eq (get_or row i [])) words

each_on : (row words : List (List ℕ)) → ((i : ℕ) → i < length row → has_word row words i ≡ true)
    → has_each row words ≡ true
each_on [] words has = refl
each_on (w ∷ row) words has =
    ap (λ (b : Bool). b && list_all (λ (v : List ℕ). list_any (bytes_eq v) words) row) (has 0 (omega arith))
    ∙ each_on row words (λ i lt. has (suc i) (omega (arith, lt)))

first_has : (asked : List (List ℕ)) (o : Operands) (row words : List (List ℕ))
    → all_take asked words o.places.items o.parts.items ≡ true
    → ((i : ℕ) → i < length row → IsPutOnce asked o row i) → (n i : ℕ) → i < n → i < length row
    → has_word row words i ≡ true
first_has asked o row words held once zero i less lt = absurd (omega (arith, less))
first_has asked o row words held once (suc n) i less lt = elim (once i lt) [
  | inl here ↦ here words held
  | inr same ↦ ap (λ (w : List ℕ). list_any (bytes_eq w) words) (sym same.2)
      ∙ first_has asked o row words held once n same.0 (omega (arith, same.1, less)) (omega (arith, same.1, lt))
]

pub each_once : (asked : List (List ℕ)) (o : Operands) (row : List (List ℕ))
    → ((i : ℕ) → i < length row → IsPutOnce asked o row i) → HasEach asked o row
each_once asked o row once words held =
    each_on row words (λ i lt. first_has asked o row words held once (suc i) i (omega arith) lt)

-- the same word stands before
pub once_before : (asked : List (List ℕ)) (o : Operands) (row : List (String Global)) (i k : ℕ)
    (x : String Global) → i < length row → x ≡ get_or row i x → k < length (take i row)
    → string_eq (get_or (take i row) k x) x ≡ true → IsPutOnce asked o (map string_bytes row) i
once_before asked o row i k x lt is less same =
    let front : k < i = omega (arith, less, length-take i row) in
    let y = get_or row k x in
    let here : string_bytes y ≡ get_or (map string_bytes row) k [] =
    same_row string_bytes row k y (omega (arith, front, lt)) (get_or_default row k x y (omega (arith, front, lt))) in
    let there : string_bytes x ≡ get_or (map string_bytes row) i [] = same_row string_bytes row i x lt is in
    let taken : get_or (take i row) k x ≡ y = get_or-take i row k x front in
    inr (k, front, sym here ∙ ap string_bytes (sym taken) ∙ (bytes_eq-Decides (string_bytes (get_or (take i row) k x)) (string_bytes x)).0 same ∙ there)

-- words that came after others
pub narrowed_on : (a b c : Operands) → IsNarrowed a b → IsNarrowed b c → IsNarrowed a c
narrowed_on a b c one two = record {
  parts = two.parts ∙ one.parts;
  excluded = two.excluded ∙ one.excluded;
  phrases = two.phrases ∙ one.phrases;
  takes = λ asked words is. one.takes asked words (two.takes asked words is);
}

pub still_once : (asked : List (List ℕ)) (old new : Operands) (row : List (List ℕ)) (i : ℕ)
    → IsNarrowed old new → IsPutOnce asked old row i → IsPutOnce asked new row i
still_once asked old new row i narrowed once = elim once [
  | inl here ↦ inl (λ words takes. here words (narrowed.takes asked words takes))
  | inr same ↦ inr same
]

-- ---- OPERANDS that come to others

phrases_still : (asked : List (List ℕ)) (old new : Operands) (phrases : List PhrasePlaces)
    → ((words : List (List ℕ)) → all_take asked words new.places.items new.parts.items ≡ true
    → all_take asked words old.places.items old.parts.items ≡ true)
    → Each1 (λ (p : PhrasePlaces). HasEach asked old (row_of asked p)) phrases
    → Each1 (λ (p : PhrasePlaces). HasEach asked new (row_of asked p)) phrases
phrases_still asked old new [] takes each = tt
phrases_still asked old new (p ∷ phrases) takes each =
    (λ words is. each.0 words (takes words is), phrases_still asked old new phrases takes each.1)

-- words alone came
pub narrowed_rest : (asked : List (List ℕ)) (old new : Operands) → IsNarrowed old new
    → OperandsRest asked old → OperandsRest asked new
narrowed_rest asked old new narrowed rest = record {
  parts = subst (AllRest asked) (sym narrowed.parts) rest.parts;
  excluded = subst (AllRest asked) (sym narrowed.excluded) rest.excluded;
  phrases = subst (λ (ps : List PhrasePlaces). Each1 (λ (p : PhrasePlaces). HasEach asked new (row_of asked p)) ps)
      (sym narrowed.phrases)
      (phrases_still asked old new old.phrases.items (narrowed.takes asked) rest.phrases);
}

-- a part came
pub part_rest : (asked : List (List ℕ)) (old new : Operands) (part : Plan)
    → new.parts.items ≡ part ∷ old.parts.items → new.excluded.items ≡ old.excluded.items
    → new.phrases.items ≡ old.phrases.items
    → ((words : List (List ℕ)) → all_take asked words new.places.items new.parts.items ≡ true
    → all_take asked words old.places.items old.parts.items ≡ true)
    → RestsOnWords (operation_of asked part) → OperandsRest asked old → OperandsRest asked new
part_rest asked old new part parts excluded phrases takes rests rest = record {
  parts = subst (AllRest asked) (sym parts) (rests, rest.parts);
  excluded = subst (AllRest asked) (sym excluded) rest.excluded;
  phrases = subst (λ (ps : List PhrasePlaces). Each1 (λ (p : PhrasePlaces). HasEach asked new (row_of asked p)) ps)
      (sym phrases) (phrases_still asked old new old.phrases.items takes rest.phrases);
}

-- a phrase came, whose words were put
each_more : {X : Type 0} (P : X → Type 0) (xs : List X) (x : X) → Each1 P xs → P x → Each1 P (xs ++ x ∷ [])
each_more P [] x each here = (here, tt)
each_more P (y ∷ xs) x each here = (each.0, each_more P xs x each.1 here)

pub phrase_rest : (asked : List (List ℕ)) (old new : Operands) (p : PhrasePlaces)
    → new.parts.items ≡ old.parts.items → new.excluded.items ≡ old.excluded.items
    → new.places.items ≡ old.places.items → new.phrases.items ≡ old.phrases.items ++ p ∷ []
    → HasEach asked old (row_of asked p) → OperandsRest asked old → OperandsRest asked new
phrase_rest asked old new p parts excluded places phrases has rest =
    let takes : (words : List (List ℕ)) → all_take asked words new.places.items new.parts.items ≡ true
    → all_take asked words old.places.items old.parts.items ≡ true =
    λ words is. ap (λ (ps : List ℕ). all_take asked words ps old.parts.items) (sym places)
    ∙ ap (λ (ps : List Plan). all_take asked words new.places.items ps) (sym parts) ∙ is in
    record {
      parts = subst (AllRest asked) (sym parts) rest.parts;
      excluded = subst (AllRest asked) (sym excluded) rest.excluded;
      phrases = subst (λ (ps : List PhrasePlaces). Each1 (λ (q : PhrasePlaces). HasEach asked new (row_of asked q)) ps)
          (sym phrases)
          (phrases_still asked old new (old.phrases.items ++ p ∷ []) takes
          (each_more (λ (q : PhrasePlaces). HasEach asked old (row_of asked q)) old.phrases.items p rest.phrases has));
    }

-- ---- EACH of several

pub each_at : {X : Type 0} (P : X → Type 0) (xs : List X) (i : ℕ) (d : X) → Each1 P xs → i < length xs
    → P (get_or xs i d)
each_at P [] i d each lt = absurd (omega (arith, lt))
each_at P (x ∷ xs) zero d each lt = each.0
each_at P (x ∷ xs) (suc i) d each lt = each_at P xs i d each.1 (omega (arith, lt))

pub each_so : {X : Type 0} (P Q : X → Type 0) (xs : List X) → ((x : X) → P x → Q x) → Each1 P xs → Each1 Q xs
each_so P Q [] so each = tt
each_so P Q (x ∷ xs) so each = (so x each.0, each_so P Q xs so each.1)

-- ---- CHAINS, gone through from their end

-- what is left of a chain, while its end came to others
pub record StillGathers (query rest : Tree) (place : ℕ) (old new : Operands) : Type 0 where
  pub each : (asked : List (List ℕ)) (from : ℕ) → from + length (leaves rest) ≡ place
      → StandAt asked from (leaves query) → OperandsRest asked old
      → StandAt asked from (leaves rest) × OperandsRest asked new

pub gathers_on : (query rest left right : Tree) (place place' : ℕ) (old mid new : Operands) → StillGathers query rest place old mid
    → GathersRest right place' mid new → IsPassed right place place' → rest ≡ And left right
    → StillGathers query left place' old new
gathers_on query rest left right place place' old mid new still goes passed is = record {
  each = λ asked from at stand rests.
      let long : length (leaves rest) ≡ length (leaves left) + length (leaves right) =
      ap (λ (q : Tree). length (leaves q)) is ∙ length-append (leaves left) (leaves right) in
      let known = still.each asked from (omega (arith, at, long, passed)) stand rests in
      let both = subst (λ (q : Tree). StandAt asked from (leaves q)) is known.0 in (
        stand_left asked (leaves left) (leaves right) from both,
        goes.rest asked (stand_right asked (leaves left) (leaves right) from place' at both) known.1,
      );
}

-- what is left of a chain, while its end came to others
pub record StillJoins (query rest : Tree) (place : ℕ) (old new : List Plan) : Type 0 where
  pub each : (asked : List (List ℕ)) (from : ℕ) → from + length (leaves rest) ≡ place
      → StandAt asked from (leaves query) → AllRest asked old
      → StandAt asked from (leaves rest) × AllRest asked new

pub joins_on : (query rest left right : Tree) (place place' : ℕ) (old mid new : List Plan) → StillJoins query rest place old mid
    → JoinsRest right place' mid new → IsPassed right place place' → rest ≡ Or left right
    → StillJoins query left place' old new
joins_on query rest left right place place' old mid new still goes passed is = record {
  each = λ asked from at stand rests.
      let long : length (leaves rest) ≡ length (leaves left) + length (leaves right) =
      ap (λ (q : Tree). length (leaves q)) is ∙ length-append (leaves left) (leaves right) in
      let known = still.each asked from (omega (arith, at, long, passed)) stand rests in
      let both = subst (λ (q : Tree). StandAt asked from (leaves q)) is known.0 in (
        stand_left asked (leaves left) (leaves right) from both,
        goes.rest asked (stand_right asked (leaves left) (leaves right) from place' at both) known.1,
      );
}

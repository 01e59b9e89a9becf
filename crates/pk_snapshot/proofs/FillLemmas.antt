-- A range is filled with the bytes of one extent after another.
use Rattle.std.proofs.Common.{◌≡◌, inl, inr, ℕ, ◌+◌, ◌-◌, ◌<◌, ◌≤◌, ◌||◌, Bool, true, false, List, length, get_or, take, drop, refl, sym, ◌∙◌, ap, subst, arith, Ok, Err, Result, OnOk, length-drop}
use Rattle.std.specs.Prelude.{max, min}
use Rattle.std.specs.Result.{is_ok}
use Rattle.std.proofs.lemmas.List.{places, length-take-le}
use Rattle.std.proofs.lemmas.Bool.{cases_Bool}
use Rattle.std.proofs.lemmas.List.Folds.{list_any_more}
use borrow.Rule.Slice.PartMut.{put_mid}
use Rattle.pk_disk.specs.declared.units.Extent.{Extent}
use Rattle.pk_disk.specs.Units.{start_of}
use Rattle.pk_disk.proofs.Ranges.{range_cases}
use Rattle.pk_manifest.specs.Evolves.{Evolves, covers, is_in}
use Rattle.pk_snapshot.specs.Shared.{AreSeen, IsFilled, IsPartFilled, SeenAt}
use Rattle.pk_manifest.proofs.Evolving.{evolves_here}
use Rattle.pk_snapshot.proofs.SeenLemmas.{seen_wider}

-- what follows of an answer's Ok
pub on_ok : {T E : Type 0} (r : Result T E) (P Q : Type 0) → (P → Q) → OnOk r P → OnOk r Q
on_ok (Ok v) P Q then is = then is
on_ok (Err e) P Q then is = tt

put_left : (out sub : List ℕ) (a k i : ℕ) → a + k ≤ length out → length sub ≡ k → i < a → get_or (put_mid a k out sub) i 0 ≡ get_or out i 0
put_left out sub a k i room long lt = grind (arith, places)

put_right : (out sub : List ℕ) (a k i : ℕ) → a + k ≤ length out → length sub ≡ k → a + k ≤ i → get_or (put_mid a k out sub) i 0 ≡ get_or out i 0
put_right out sub a k i room long le = grind (arith, places)

put_mid_at : (out sub : List ℕ) (a k i : ℕ) → a + k ≤ length out → length sub ≡ k → i < k → get_or (put_mid a k out sub) (a + i) 0 ≡ get_or sub i 0
put_mid_at out sub a k i room long lt = grind (arith, places)

-- one extent
module _ (old new : List ℕ) (e : Extent) (at from to : ℕ) (out sub : List ℕ) (low : from ≡ max (start_of e) at) (high : to ≡ min (start_of e + e.bytes) (at + length out)) (some : from < to)
    (long : length sub ≡ length (take (to - at - (from - at)) (drop (from - at) out))) where
  start : ℕ
  start = from - at

  count : ℕ
  count = to - at - (from - at)

  room : start + count ≤ length out
  unfolding start count
  room = omega (arith, low, high, some)

  size : length sub ≡ count
  unfolding start count
  size = long ∙ length-take-le count (drop start out) (omega (arith, room, length-drop start out))

  seen_part : AreSeen old new from (length (take count (drop start out))) sub → IsPartFilled old new e at out (put_mid start count out sub)
  unfolding start count
  seen_part seen i lt =
      let whole = put_mid start count out sub in
      elim (range_cases (start_of e) e.bytes (at + i)) [
        | inl inside ↦
            let below : start_of e ≤ at + i = inside.1 in
            let above : at + i < start_of e + e.bytes = inside.2 in
            let k : ℕ = at + i - from in
            let place : from + k ≡ at + i = omega (arith, below, above, low, high, lt) in
            let there : k < count = omega (arith, below, above, low, high, lt, some) in
            let back : start + k ≡ i = omega (arith, below, above, low, high, lt) in
            let byte : get_or sub k 0 ≡ get_or whole i 0 = sym (put_mid_at out sub start count k room size there) ∙ ap (λ (j : ℕ). get_or whole j 0) back in
            let within : k < length (take count (drop start out)) = omega (arith, there, size, long) in (
              λ _. subst (λ (b : ℕ). SeenAt old new (at + i) b) byte (subst (λ (p : ℕ). SeenAt old new p (get_or sub k 0)) place (seen k within)),
              λ out_of. absurd (let both : true ≡ false = sym inside.0 ∙ out_of in cc),
            )
        | inr outside ↦ (
          λ in_it. absurd (let both : true ≡ false = sym in_it ∙ outside.0 in cc),
          λ _. elim outside.1 [
            | inl before ↦ put_left out sub start count i room size (omega (arith, before, low, high, some))
            | inr after ↦ put_right out sub start count i room size (omega (arith, after, low, high, some))
          ],
        )
      ]

  pub part_filled : AreSeen old new from (length (take (to - at - (from - at)) (drop (from - at) out))) sub → IsPartFilled old new e at out (put_mid (from - at) (to - at - (from - at)) out sub)
  unfolding start count
  part_filled seen = seen_part seen

pub or_false : (a b : Bool) → b ≡ false → (a || b) ≡ a
or_false true b is = refl
or_false false b is = is

or_right_true : (a b : Bool) → b ≡ true → (a || b) ≡ true
or_right_true true b is = refl
or_right_true false b is = is

-- one more extent
module _ (old mid new : List ℕ) (shown : List Extent) (k : ℕ) (d : Extent) (at : ℕ) (out out' : List ℕ) (some : k < length shown) (long : length out' ≡ length out) (first : Evolves old mid) (second : Evolves mid new)
    (before : IsFilled old mid (take k shown) at out) (part : IsPartFilled mid new (get_or shown k d) at out out') where
  more : (p : ℕ) → covers (take (k + 1) shown) p ≡ (covers (take k shown) p || is_in p (get_or shown k d))
  more p = list_any_more (is_in p) shown k d some

  pub filled_more : IsFilled old new (take (k + 1) shown) at out'
  filled_more i lt =
      let below : i < length out = omega (arith, lt, long) in
      elim (cases_Bool (is_in (at + i) (get_or shown k d))) [
        | inl is ↦
            let all : covers (take (k + 1) shown) (at + i) ≡ true = more (at + i) ∙ or_right_true _ _ is in (
              λ _. seen_wider old mid new new (at + i) (get_or out' i 0) first ((part i below).0 is) (evolves_here new),
              λ none. absurd (let both : true ≡ false = sym all ∙ none in cc),
            )
        | inr isnt ↦
            let same : covers (take (k + 1) shown) (at + i) ≡ covers (take k shown) (at + i) = more (at + i) ∙ or_false _ _ isnt in
            let byte : get_or out' i 0 ≡ get_or out i 0 = (part i below).1 isnt in (
              λ yes. subst (λ (b : ℕ). SeenAt old new (at + i) b) (sym byte)
                  (seen_wider old old mid new (at + i) (get_or out i 0) (evolves_here old) ((before i below).0 (sym same ∙ yes)) second),
              λ none. byte ∙ (before i below).1 (sym same ∙ none),
            )
      ]

-- of an answer that is Ok
pub ok_then : {T E : Type 0} (r : Result T E) (P : Type 0) → is_ok r ≡ true → OnOk r P → P
ok_then (Ok v) P is there = there
ok_then (Err e) P is there = cc

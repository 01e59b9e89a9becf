-- A crash leaves an image, and each image is left by some crash.
use Rattle.std.proofs.Common.{◌≡◌, inl, inr, ℕ, zero, suc, ◌+◌, ◌<◌, ◌≤◌, ◌++◌, Bool, true, false, if◌then◌else◌, List, [], ◌∷◌, length, get_or, take, drop, set, refl, sym, ◌∙◌, ap, arith}
use Rattle.std.proofs.lemmas.Bool.{cases_Bool}
use Rattle.std.proofs.lemmas.List.{drop_more, drop_all, take_more, take_more_set, append_assoc, drop-set-lt}
use Rattle.pk_disk.specs.Disk.{IsImage}
use Rattle.pk_disk.specs.Crash.{crashed, picks_of}

pub crashed_nil : (is_open : ℕ → Bool) (p : ℕ) (bytes : List ℕ) → crashed is_open p bytes [] ≡ bytes
crashed_nil is_open p [] = refl
crashed_nil is_open p (b ∷ bs) = refl

pub crashed_open : (is_open : ℕ → Bool) (p b x : ℕ) (bs picks : List ℕ) → is_open p ≡ true → crashed is_open p (b ∷ bs) (x ∷ picks) ≡ x ∷ crashed is_open (p + 1) bs picks
crashed_open is_open p b x bs picks is = ap (λ (t : Bool). if t then x ∷ crashed is_open (p + 1) bs picks else b ∷ crashed is_open (p + 1) bs (x ∷ picks)) is

pub crashed_shut : (is_open : ℕ → Bool) (p b : ℕ) (bs picks : List ℕ) → is_open p ≡ false → crashed is_open p (b ∷ bs) picks ≡ b ∷ crashed is_open (p + 1) bs picks
crashed_shut is_open p b bs [] shut = ap (λ (l : List ℕ). b ∷ l) (sym (crashed_nil is_open (p + 1) bs))
crashed_shut is_open p b bs (x ∷ picks) shut = ap (λ (t : Bool). if t then x ∷ crashed is_open (p + 1) bs picks else b ∷ crashed is_open (p + 1) bs (x ∷ picks)) shut

pub length-crashed : (is_open : ℕ → Bool) (p : ℕ) (bytes picks : List ℕ) → length (crashed is_open p bytes picks) ≡ length bytes
length-crashed is_open p [] picks = refl
length-crashed is_open p (b ∷ bs) [] = refl
length-crashed is_open p (b ∷ bs) (x ∷ picks) = elim (cases_Bool (is_open p)) [
  | inl is ↦ ap length (crashed_open is_open p b x bs picks is) ∙ ap suc (length-crashed is_open (p + 1) bs picks)
  | inr shut ↦ ap length (crashed_shut is_open p b bs (x ∷ picks) shut) ∙ ap suc (length-crashed is_open (p + 1) bs (x ∷ picks))
]

crashed_same : (is_open : ℕ → Bool) (p : ℕ) (bytes picks : List ℕ) (k : ℕ) → is_open (p + k) ≡ false → get_or (crashed is_open p bytes picks) k 0 ≡ get_or bytes k 0
crashed_same is_open p [] picks k shut = refl
crashed_same is_open p (b ∷ bs) [] k shut = refl
crashed_same is_open p (b ∷ bs) (x ∷ picks) zero shut =
    let here : p + 0 ≡ p = omega arith in
    ap (λ (l : List ℕ). get_or l 0 0) (crashed_shut is_open p b bs (x ∷ picks) (sym (ap is_open here) ∙ shut))
crashed_same is_open p (b ∷ bs) (x ∷ picks) (suc k) shut =
    let there : p + suc k ≡ p + 1 + k = omega arith in
    let later = sym (ap is_open there) ∙ shut in
    elim (cases_Bool (is_open p)) [
      | inl is ↦ ap (λ (l : List ℕ). get_or l (suc k) 0) (crashed_open is_open p b x bs picks is) ∙ crashed_same is_open (p + 1) bs picks k later
      | inr closed ↦ ap (λ (l : List ℕ). get_or l (suc k) 0) (crashed_shut is_open p b bs (x ∷ picks) closed) ∙ crashed_same is_open (p + 1) bs (x ∷ picks) k later
    ]

-- a crash leaves an image
pub crash_is_image : (is_open : ℕ → Bool) (bytes picks : List ℕ) → IsImage bytes is_open (crashed is_open 0 bytes picks)
crash_is_image is_open bytes picks = record {
  size = length-crashed is_open 0 bytes picks;
  same = λ p shut. crashed_same is_open 0 bytes picks p (ap is_open (let z : 0 + p ≡ p = omega arith in z) ∙ shut);
}

picked : (is_open : ℕ → Bool) (p : ℕ) (bytes image : List ℕ) → length image ≡ length bytes → ((k : ℕ) → is_open (p + k) ≡ false → get_or image k 0 ≡ get_or bytes k 0) → crashed is_open p bytes (picks_of is_open p image) ≡ image
picked is_open p [] [] long same = refl
picked is_open p [] (c ∷ image) long same = absurd (omega (arith, long))
picked is_open p (b ∷ bs) [] long same = absurd (omega (arith, long))
picked is_open p (b ∷ bs) (c ∷ image) long same =
    let rest : crashed is_open (p + 1) bs (picks_of is_open (p + 1) image) ≡ image =
    picked is_open (p + 1) bs image (omega (arith, long)) (λ k shut. same (suc k) (ap is_open (let there : p + suc k ≡ p + 1 + k = omega arith in there) ∙ shut)) in
    elim (cases_Bool (is_open p)) [
      | inl is ↦
          let here : picks_of is_open p (c ∷ image) ≡ c ∷ picks_of is_open (p + 1) image = ap (λ (t : Bool). if t then c ∷ picks_of is_open (p + 1) image else picks_of is_open (p + 1) image) is in
          ap (λ (l : List ℕ). crashed is_open p (b ∷ bs) l) here ∙ crashed_open is_open p b c bs (picks_of is_open (p + 1) image) is ∙ ap (λ (l : List ℕ). c ∷ l) rest
      | inr shut ↦
          let here : picks_of is_open p (c ∷ image) ≡ picks_of is_open (p + 1) image = ap (λ (t : Bool). if t then c ∷ picks_of is_open (p + 1) image else picks_of is_open (p + 1) image) shut in
          let first : c ≡ b = same 0 (ap is_open (let z : p + 0 ≡ p = omega arith in z) ∙ shut) in
          ap (λ (l : List ℕ). crashed is_open p (b ∷ bs) l) here ∙ crashed_shut is_open p b bs (picks_of is_open (p + 1) image) shut ∙ (λ i. sym first i ∷ rest i)
    ]

-- and each image is left by some crash
pub image_is_crash : (is_open : ℕ → Bool) (bytes image : List ℕ) → IsImage bytes is_open image → crashed is_open 0 bytes (picks_of is_open 0 image) ≡ image
image_is_crash is_open bytes image is = picked is_open 0 bytes image is.size (λ k shut. is.same k (sym (ap is_open (let z : 0 + k ≡ k = omega arith in z)) ∙ shut))

-- one position on
module _ (is_open : ℕ → Bool) (p n : ℕ) (bytes first picks : List ℕ) (total : List ℕ) (lt : p < length bytes) (long : length bytes ≡ length first)
    (done : take p bytes ++ crashed is_open p (drop p first) (drop n picks) ≡ total) (rest : drop p bytes ≡ drop p first) where
  b : ℕ
  b = get_or bytes p 0

  head : drop p first ≡ get_or bytes p 0 ∷ drop (p + 1) first
  head =
      let mine = drop_more bytes p 0 lt in
      let theirs = drop_more first p 0 (omega (arith, lt, long)) in
      let same : get_or bytes p 0 ≡ get_or first p 0 = cc in
      theirs ∙ ap (λ (c : ℕ). c ∷ drop (p + 1) first) (sym same)

  tail : drop (p + 1) bytes ≡ drop (p + 1) first
  tail =
      let mine = drop_more bytes p 0 lt in
      let theirs = drop_more first p 0 (omega (arith, lt, long)) in
      cc

  pub picked_step : n < length picks → is_open p ≡ true → (take (p + 1) (set bytes p (get_or picks n 0)) ++ crashed is_open (p + 1) (drop (p + 1) first) (drop (n + 1) picks) ≡ total) × (drop (p + 1) (set bytes p (get_or picks n 0)) ≡ drop (p + 1) first)
  picked_step more is =
      let x = get_or picks n 0 in
      let now : crashed is_open p (drop p first) (drop n picks) ≡ x ∷ crashed is_open (p + 1) (drop (p + 1) first) (drop (n + 1) picks) =
      (λ i. crashed is_open p (head i) (drop_more picks n 0 more i)) ∙ crashed_open is_open p (get_or bytes p 0) x (drop (p + 1) first) (drop (n + 1) picks) is in (
        ap (λ (l : List ℕ). l ++ crashed is_open (p + 1) (drop (p + 1) first) (drop (n + 1) picks)) (take_more_set bytes p x lt)
            ∙ append_assoc (take p bytes) (x ∷ []) (crashed is_open (p + 1) (drop (p + 1) first) (drop (n + 1) picks))
            ∙ ap (λ (l : List ℕ). take p bytes ++ l) (sym now) ∙ done,
        drop-set-lt (p + 1) bytes p x (omega arith) ∙ tail,
      )

  kept_on : crashed is_open p (drop p first) (drop n picks) ≡ get_or bytes p 0 ∷ crashed is_open (p + 1) (drop (p + 1) first) (drop n picks) → (take (p + 1) bytes ++ crashed is_open (p + 1) (drop (p + 1) first) (drop n picks) ≡ total) × (drop (p + 1) bytes ≡ drop (p + 1) first)
  kept_on now = (
    ap (λ (l : List ℕ). l ++ crashed is_open (p + 1) (drop (p + 1) first) (drop n picks)) (take_more bytes p 0 lt)
        ∙ append_assoc (take p bytes) (get_or bytes p 0 ∷ []) (crashed is_open (p + 1) (drop (p + 1) first) (drop n picks))
        ∙ ap (λ (l : List ℕ). take p bytes ++ l) (sym now) ∙ done,
    tail,
  )

  pub shut_step : is_open p ≡ false → (take (p + 1) bytes ++ crashed is_open (p + 1) (drop (p + 1) first) (drop n picks) ≡ total) × (drop (p + 1) bytes ≡ drop (p + 1) first)
  shut_step shut = kept_on (ap (λ (l : List ℕ). crashed is_open p l (drop n picks)) head ∙ crashed_shut is_open p (get_or bytes p 0) (drop (p + 1) first) (drop n picks) shut)

  pub past_step : length picks ≤ n → (take (p + 1) bytes ++ crashed is_open (p + 1) (drop (p + 1) first) (drop n picks) ≡ total) × (drop (p + 1) bytes ≡ drop (p + 1) first)
  past_step past =
      let none = drop_all n picks past in
      kept_on ((λ i. crashed is_open p (head i) (none i)) ∙ crashed_nil is_open p (get_or bytes p 0 ∷ drop (p + 1) first) ∙ ap (λ (l : List ℕ). get_or bytes p 0 ∷ l) (sym (ap (crashed is_open (p + 1) (drop (p + 1) first)) none ∙ crashed_nil is_open (p + 1) (drop (p + 1) first))))

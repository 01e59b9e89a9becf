-- The list function `taken` answers what the bytes spell, and there is one such answer.
use Rattle.std.proofs.Common.{◌≡◌, ℕ, zero, suc, ◌<◌, ◌+◌, ◌-◌, ◌*◌, ◌^◌, inl, inr, List, [], ◌∷◌, ◌++◌, length, drop, slice_index, arith, refl, sym, ap, ap₂, ◌∙◌, subst, Result, Ok, Err, nat_lt, nat_eq, add-zero}
use Rattle.std.proofs.lemmas.Bool.{cond_both, ltb-true, ltb-false, eqb-true, eqb-false}
use Rattle.std.proofs.lemmas.List.{take-append-drop, length-drop, get_or-drop, drop-drop}
use Rattle.pk_vbyte.specs.declared.variable.VFault.{VFault}
use Rattle.pk_vbyte.specs.declared.variable.VFault.TheVariants.{Padded, Short, TooLarge}
use Rattle.pk_vbyte.specs.VariableByte.{vbyte, Takes, Runs, Refuses, taken, taken_on, ended}
use Rattle.pk_vbyte.proofs.Taking.{SoFar, nothing, more_read, ended as ended_right, exceeded, only_taken, refused}

-- an answer that is right
abbrev pub Answers : List ℕ → Result (ℕ × ℕ) VFault → Type 0
Answers bytes (Ok r) = Takes bytes r.0 r.1
Answers bytes (Err e) = Refuses bytes e

-- each fault stands where no other answer does
apart : (bytes : List ℕ) (e f : VFault) → Refuses bytes e → Refuses bytes f → e ≡ f
apart bytes Padded Padded r s = refl
apart bytes Short Short r s = refl
apart bytes TooLarge TooLarge r s = refl
apart bytes Padded Short r s = absurd (s.1.proper r.0 r.1)
apart bytes Short Padded r s = absurd (r.1.proper s.0 s.1)
apart bytes Padded TooLarge r (inl s) = absurd (s.proper r.0 r.1)
apart bytes Padded TooLarge r (inr s) = absurd (s.before.proper r.0 r.1)
apart bytes TooLarge Padded (inl r) s = absurd (r.proper s.0 s.1)
apart bytes TooLarge Padded (inr r) s = absurd (r.before.proper s.0 s.1)
apart bytes Short TooLarge r (inl s) = absurd (let a = s.within in omega arith)
apart bytes Short TooLarge r (inr s) = absurd (let a = r.1.none s.k s.there in let b = s.last in omega arith)
apart bytes TooLarge Short (inl r) s = absurd (let a = r.within in omega arith)
apart bytes TooLarge Short (inr r) s = absurd (let a = s.1.none r.k r.there in let b = r.last in omega arith)

begins : (bytes : List ℕ) (v k : ℕ) → Takes bytes v k → bytes ≡ vbyte v ++ drop k bytes
begins bytes v k t = sym (ap (λ xs. xs ++ drop k bytes) (sym t.spelled) ∙ take-append-drop k bytes)

-- bytes have one answer
pub same_answer : (bytes : List ℕ) (r s : Result (ℕ × ℕ) VFault) → Answers bytes r → Answers bytes s → r ≡ s
same_answer bytes (Ok r) (Ok s) a b =
    let same = only_taken bytes r.0 r.1 s.0 (drop s.1 bytes) a (begins bytes s.0 s.1 b) in
    ap₂ (λ v k. Ok (v, k)) same.0 (same.1 ∙ sym b.long)
same_answer bytes (Ok r) (Err f) a b = absurd (refused bytes f r.0 (drop r.1 bytes) a.below (begins bytes r.0 r.1 a) b)
same_answer bytes (Err e) (Ok s) a b = absurd (refused bytes e s.0 (drop s.1 bytes) b.below (begins bytes s.0 s.1 b) a)
same_answer bytes (Err e) (Err f) a b = ap (λ x. Err x) (apart bytes e f a b)

here_is : (bytes rest : List ℕ) (i b : ℕ) → drop i bytes ≡ b ∷ rest → (i < length bytes) × (b ≡ slice_index bytes i) × (drop (i + 1) bytes ≡ rest)
here_is bytes rest i b d =
    let long : length bytes - i ≡ length rest + 1 = sym (length-drop i bytes) ∙ ap length d ∙ omega arith in
    let here : slice_index bytes i ≡ b = ap (slice_index bytes) (sym (add-zero i)) ∙ sym (get_or-drop i bytes 0 0) ∙ ap (λ xs. slice_index xs 0) d in
    let next : drop (i + 1) bytes ≡ rest = sym (drop-drop 1 i bytes) ∙ ap (drop 1) d in
    (omega arith, sym here, next)

sound_on : (left i n : ℕ) (bytes rest : List ℕ) → left + i ≡ 5 → SoFar bytes i n → ((j : ℕ) → slice_index bytes j < 256)
    → drop i bytes ≡ rest → Answers bytes (taken_on left n i rest)
unfolding taken_on ended
sound_on zero i n bytes rest e s f d = let five : i ≡ 5 = omega arith in inl (subst (Runs bytes) five s.run)
sound_on (suc left) i n bytes [] e s f d =
    let long : length bytes - i ≡ 0 = sym (length-drop i bytes) ∙ ap length d in
    let most = s.run.within in
    let all : i ≡ length bytes = omega arith in
    (omega arith, subst (Runs bytes) all s.run)
sound_on (suc left) i n bytes (b ∷ rest) e s f d =
    let at = here_is bytes rest i b d in
    let byte = f i in
    cond_both (nat_lt b 128) (taken_on left (n * 128 + b) (i + 1) rest) (ended (n * 128 + (b - 128)) (i + 1)) (Answers bytes)
    (λ t. (let l = ltb-true b 128 t in
    sound_on left (i + 1) (n * 128 + b) bytes rest (omega arith) (more_read bytes i n b s at.0 at.1 l) f at.2))
    (λ t. (let l = ltb-false b 128 t in
    let low : b < 256 = omega arith in
    cond_both (nat_lt (n * 128 + (b - 128)) (2 ^ 32)) (Ok (n * 128 + (b - 128), i + 1)) (Err TooLarge) (Answers bytes)
    (λ u. ended_right bytes i n b s at.0 at.1 l low (ltb-true _ _ u))
    (λ u. inr (exceeded bytes i n b s at.0 (omega arith) at.1 l (ltb-false _ _ u)))))

-- `taken` answers right
pub sound : (bytes : List ℕ) → ((j : ℕ) → slice_index bytes j < 256) → Answers bytes (taken bytes)
unfolding taken
sound [] f = (omega arith, record { proper = λ h. absurd (omega arith); within = omega arith; none = λ i h. absurd (omega arith) })
sound (b ∷ bytes) f =
    cond_both (nat_eq b 0) (Err Padded) (taken_on 5 0 0 (b ∷ bytes)) (Answers (b ∷ bytes))
    (λ t. (omega arith, eqb-true b 0 t))
    (λ t. sound_on 5 0 0 (b ∷ bytes) (b ∷ bytes) refl (nothing (b ∷ bytes) (λ h. eqb-false b 0 t)) f refl)

pub exact_taken : (bytes : List ℕ) (v k : ℕ) → ((j : ℕ) → slice_index bytes j < 256) → Takes bytes v k → Ok (v, k) ≡ taken bytes
exact_taken bytes v k f t = same_answer bytes (Ok (v, k)) (taken bytes) t (sound bytes f)

pub exact_refused : (bytes : List ℕ) (e : VFault) → ((j : ℕ) → slice_index bytes j < 256) → Refuses bytes e → Err e ≡ taken bytes
exact_refused bytes e f r = same_answer bytes (Err e) (taken bytes) r (sound bytes f)

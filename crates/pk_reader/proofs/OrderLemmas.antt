-- Generations in force and lengths, compared by what they are of.
use Rattle.std.proofs.Common.{◌≡◌, ◌≤◌, ℕ, List, length, Result, Ok, Err, subst, arith}
use Rattle.std.specs.Prelude.{IfErr, IfNone, IfOk, IfSome, Option, None, Some}
use Rattle.pk_manifest.specs.Evolves.{Evolves, in_force}

-- no less than one that is as great as the generation that is shown
pub as_fresh : (asked generation shown : ℕ) → asked ≤ generation → shown ≡ generation → asked ≤ shown
as_fresh asked generation shown low same = omega (arith, low, same)

-- no less than what is shown, however that is seen
pub still_fresh : (asked before shown now : ℕ) → asked ≤ before → shown ≡ before → shown ≤ now → asked ≤ now
still_fresh asked before shown now low same since = omega (arith, low, same, since)

-- of bytes that go on from these
pub low_from : (first now since : List ℕ) → since ≡ first → Evolves since now → in_force first ≤ in_force now
low_from first now since same goes = subst (λ (l : List ℕ). in_force l ≤ in_force now) same goes.rises

pub long_from : (first now since : List ℕ) → since ≡ first → Evolves since now → length first ≤ length now
long_from first now since same goes = subst (λ (l : List ℕ). length l ≤ length now) same goes.size

-- what follows of each answer, and of each refusal
pub if_ok_then : {T E : Type 0} (P Q : T → Type 0) (result : Result T E) → ((x : T) → P x → Q x) → IfOk result P → IfOk result Q
if_ok_then P Q (Ok x) then_so given = then_so x given
if_ok_then P Q (Err e) then_so given = tt

pub if_some_then : {T : Type 0} (P Q : T → Type 0) (o : Option T) → ((x : T) → P x → Q x) → IfSome o P → IfSome o Q
if_some_then P Q (Some x) then_so given = then_so x given
if_some_then P Q None then_so given = tt

pub if_none_then : {T : Type 0} (P Q : Type 0) (o : Option T) → (P → Q) → IfNone o P → IfNone o Q
if_none_then P Q (Some x) then_so given = tt
if_none_then P Q None then_so given = then_so given

pub if_err_then : {T E : Type 0} (P Q : E → Type 0) (result : Result T E) → ((e : E) → P e → Q e) → IfErr result P → IfErr result Q
if_err_then P Q (Ok x) then_so given = tt
if_err_then P Q (Err e) then_so given = then_so e given

pub if_err_both : {T E : Type 0} (H : Type 0) (P Q : E → Type 0) (result : Result T E) → (H → IfErr result P) → (H → IfErr result Q) → IfErr result (λ e. H → P e × Q e)
if_err_both H P Q (Ok x) first second = tt
if_err_both H P Q (Err e) first second = λ h. (first h, second h)

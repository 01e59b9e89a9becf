-- What is taken off stood at the top; what stays there is more than twice as long.
use Rattle.std.proofs.Common.{◌≡◌, ◌∙◌, ◌++◌, ◌∷◌, ◌-◌, ◌<◌, ℕ, zero, suc, [], List, Option, Some, None, append-nil, length, get_or, slice_get, ap, sym, arith}
use Rattle.std.proofs.lemmas.Bool.{leb-false}
use Rattle.std.proofs.lemmas.List.{length-map}
use Rattle.std.specs.Global.{Vec}
use Rattle.std.specs.Prelude.{MatchOption}
use Rattle.std.specs.Option.{option_to_list}
use Rattle.pk_union.specs.Stack.{lengths_of}
use Rattle.pk_union.proofs.StackLemmas.{stack_on}
use Rattle.pk_union.proofs.uniting.pop_short.Goals as goal
use Rattle.pk_union.proofs.uniting.pop_short.Goals.{in-Some, in-None}

popped : {X : Type 0} (old new : List X) (r : Option X) → old ≡ new ++ option_to_list r → MatchOption r (new ≡ old) (λ x. old ≡ new ++ x ∷ [])
popped old new None e = sym (e ∙ append-nil new)
popped old new (Some x) e = e

pub returns-then-is_short-clause-popped : goal.returns-then-is_short-clause-popped
returns-then-is_short-clause-popped c = popped c.args.lists.now.items c.pop.new.self.items c.pop.result c.pop.ensures.items

got : (lists : List (Vec ℕ)) (k : ℕ) (list : Vec ℕ) → slice_get lists k ≡ Some list → get_or (lengths_of lists) k 0 ≡ length list.items
got [] k list e = absurd (cc)
got (v ∷ lists) zero list e = ap (λ (x : Vec ℕ). length x.items) (let same : v ≡ list = cc in same)
got (v ∷ lists) (suc k) list e = got lists k list e

at_last : (lists : List (Vec ℕ)) (list : Vec ℕ) (k : ℕ) → slice_get lists (length lists - 1) ≡ Some list → length (lengths_of lists) ≡ suc k → get_or (lengths_of lists) k 0 ≡ length list.items
at_last lists list k is e =
    let last : length lists - 1 ≡ k = omega (arith, e, length-map lists (λ (v : Vec ℕ). length v.items)) in
    got lists k list (ap (slice_get lists) (sym last) ∙ is)

none_of : (lists : List (Vec ℕ)) (k : ℕ) → slice_get lists (length lists - 1) ≡ None → length (lengths_of lists) ≡ suc k → ⊥
none_of [] k none e = omega (arith, e)
none_of (v ∷ lists) k none e = there (v ∷ lists) (length (v ∷ lists) - 1) (omega arith) none
  where
    there : (lists : List (Vec ℕ)) (i : ℕ) → i < length lists → slice_get lists i ≡ None → ⊥
    there [] i lt none = omega (arith, lt)
    there (v ∷ lists) zero lt none = cc
    there (v ∷ lists) (suc i) lt none = there lists i (omega arith) none

pub returns-clause-stack : goal.returns-clause-stack
returns-clause-stack c = λ stack.
    let lists = c.args.lists.now.items in
    let is : c.deref.result.now ≡ lists = c.deref.ensures.value in
    stack_on (lengths_of lists) c.args.len stack
    (λ k e. elim c.match-last.branch [
      | in-Some w ↦
          let below = w.in-Some.list.now in
          let there : slice_get lists (length lists - 1) ≡ Some below = ap (λ (ls : List (Vec ℕ)). slice_get ls (length ls - 1)) (sym is) ∙ sym w.in-Some.ensures.value in
          let long = leb-false _ _ (sym w.is_short-is ∙ c.if-is_short.false) in
          omega (arith, long, w.len.ensures, below.ok, at_last lists below k there e)
      | in-None w ↦
          let none : slice_get lists (length lists - 1) ≡ None = ap (λ (ls : List (Vec ℕ)). slice_get ls (length ls - 1)) (sym is) ∙ sym w.in-None.ensures.value in
          absurd (none_of lists k none e)
    ])

-- The first term, or one greater than the last, that leaves room; and no other.
use Rattle.std.proofs.Common.{arith, sym, ap, ◌∙◌, ◌≡◌, ◌<◌, List, ℕ, length, true, IsTrue, nat_lt}
use Rattle.std.proofs.lemmas.Bool.{ltb-true, lt-ltb, eqb-true, eqb-false, false≢true}
use Rattle.pk_dict.specs.Dictionary.{Item, item_of}
use Rattle.pk_dict.specs.Order.{less}
use Rattle.pk_dict.specs.Writer.{HasAdded, MayFollow}
use Rattle.pk_dict.proofs.Growing.{may_follow, some_added, greater_last}
use Rattle.pk_dict.proofs.Sizes.{last_within}
use Rattle.pk_dict.proofs.writer.DictWriter.may_add.Goals.{else-not-is_empty-via-then-not-is_empty+else-not-is_less, else-not-is_empty-via-else-not-is_empty}
use Rattle.pk_dict.proofs.writer.DictWriter.may_add.Goals as goal

pub returns-then-not-is_less-clause-exactly : goal.returns-then-not-is_less-clause-exactly
returns-then-not-is_less-clause-exactly c es a =
    let e : Item = item_of c.args.term.now c.args.frequency c.args.place in (
      λ f. absurd (false≢true f),
      λ m.
          let some : 0 < length es = omega (arith, some_added c.args.self.now es a, eqb-false _ _ (sym c.is_empty.ensures ∙ c.if-not-is_empty.true)) in
          let last = ap (λ (l : List ℕ). less l c.args.term.now) (c.deref.ensures.value ∙ a.last) in
          absurd (false≢true (sym c.if-not-is_less.true ∙ c.is_less.ensures ∙ last ∙ greater_last es e m.rising some)),
    )

pub returns-then-term-clause-exactly : goal.returns-then-term-clause-exactly
returns-then-term-clause-exactly c es a =
    (λ f. absurd (false≢true f), λ m. absurd (omega (arith, last_within es (item_of c.args.term.now c.args.frequency c.args.place), m.size, c.if-term.true)))

follows : (c : goal.After-saturating_add) → IsTrue (nat_lt c.saturating_add.result 4294967296) → (es : List Item) → HasAdded c.args.self.now es → MayFollow es (item_of c.args.term.now c.args.frequency c.args.place)
follows c t es a =
    may_follow c.args.self.now es (item_of c.args.term.now c.args.frequency c.args.place) a
    (elim c.else-not-is_empty.branch [
      | else-not-is_empty-via-then-not-is_empty+else-not-is_less w ↦ (λ z. ap (λ (l : List ℕ). less l c.args.term.now) (sym w.deref.ensures.value) ∙ sym w.is_less.ensures ∙ w.if-not-is_less.false)
      | else-not-is_empty-via-else-not-is_empty w ↦ (λ z. absurd (let h : c.is_empty.result ≡ true = w.if-not-is_empty.false in let k = c.is_empty.ensures in let n = eqb-true _ _ (sym k ∙ h) in omega arith))
    ])
    (omega (arith, c.size.ensures es a, c.growth-more.ensures es a, c.saturating_add.ensures, ltb-true _ _ t))

pub returns-clause-exactly : goal.returns-clause-exactly
returns-clause-exactly c es a =
    (λ t. follows c t es a, λ m. lt-ltb c.saturating_add.result 4294967296 (omega (arith, c.size.ensures es a, c.growth-more.ensures es a, c.saturating_add.ensures, m.size)))

pub returns-clause-may : goal.returns-clause-may
returns-clause-may c t es a = record { items = es; added = a; next = follows c t es a }

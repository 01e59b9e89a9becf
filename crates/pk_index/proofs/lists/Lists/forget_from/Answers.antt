-- Each list is cut; where no number is so great, nothing is to be done.
use Rattle.std.proofs.Common.{◌∙◌, ℕ, filter, nat_lt, ap, sym, length, arith}
use Rattle.std.proofs.lemmas.List.{with_items_is}
use Rattle.pk_index.specs.Index.{Rows, list_of}
use Rattle.pk_index.specs.Lists.{rows_of}
use Rattle.pk_index.proofs.CutLemmas.{same_filter}
use Rattle.pk_index.proofs.TableLemmas.{cut_lists}
use Rattle.pk_index.proofs.lists.Lists.forget_from.Goals as goal

pub invariant_of-self : goal.invariant_of-self
invariant_of-self c =
    let s = c.self.inside in
    let len = c.cut_all.ensures.len ∙ ap length c.deref_mut.ensures.value in
    let items = ap length (with_items_is s.numbers c.cut_all.new.lists (len ∙ sym s.numbers.ok.0)) in
    (omega (arith, len, items, c.self.invariant.0), c.self.invariant.1)

pub returns-then-number-top : goal.returns-then-number-top
returns-then-number-top c = λ w.
    let s = c.self.inside in
    let p = λ (k : ℕ). nat_lt k c.args.number in
    let len = c.cut_all.ensures.len ∙ ap length c.deref_mut.ensures.value in
    ap (λ ls. list_of (rows_of s.terms ls) w) (with_items_is s.numbers c.cut_all.new.lists (len ∙ sym s.numbers.ok.0))
    ∙ cut_lists p s.terms c.deref_mut.result.now c.cut_all.new.lists c.cut_all.ensures.len c.cut_all.ensures.cut w
    ∙ ap (λ ls. filter p (list_of (rows_of s.terms ls) w)) c.deref_mut.ensures.value ∙ ap (λ (rows : Rows). filter p (list_of rows w)) c.self.view_is

pub returns-else-number-top : goal.returns-else-number-top
returns-else-number-top c = λ w. sym (same_filter c.args.number (list_of c.args.self.now w) (λ k d l. let h = c.requires w k d l in omega (arith, h)))

-- Each word has a row.
use Rattle.std.proofs.Common.{◌∙◌, ℕ, List, ap, sym, slice_get, length, arith}
use Rattle.pk_index.specs.Terms.{words_in}
use Rattle.pk_index.proofs.TableLemmas.{rows_len, words_are}
use Rattle.pk_index.proofs.lists.Lists.word.Goals as goal

pub word-requires : goal.word-requires
word-requires c =
    let s = c.self.inside in
    let len = sym (ap length c.self.view_is) ∙ rows_len s.terms s.numbers.items c.self.invariant.0 in
    omega (arith, c.requires, len)

pub returns : goal.returns
returns c =
    let s = c.self.inside in
    let words = ap words_in (sym c.self.view_is) ∙ words_are s.terms s.numbers.items c.self.invariant.0 in
    ap (λ (ws : List (List ℕ)). slice_get ws c.args.place) words ∙ c.word.ensures

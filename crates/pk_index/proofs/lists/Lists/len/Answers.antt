-- Each word has a row.
use Rattle.std.proofs.Common.{◌∙◌, ap, length, sym, subst}
use Rattle.std.specs.List.{IsDistinct}
use Rattle.std.specs.Str.{bytes_eq}
use Rattle.pk_index.specs.Terms.{words_in}
use Rattle.pk_index.proofs.TableLemmas.{rows_len, words_are}
use Rattle.pk_index.proofs.lists.Lists.len.Goals as goal

pub returns-clause-len : goal.returns-clause-len
returns-clause-len c =
    let s = c.self.inside in
    c.len.ensures.len ∙ sym (rows_len s.terms s.numbers.items c.self.invariant.0) ∙ ap length c.self.view_is

pub returns-clause-apart : goal.returns-clause-apart
returns-clause-apart c =
    let s = c.self.inside in
    subst (IsDistinct bytes_eq) (sym (words_are s.terms s.numbers.items c.self.invariant.0) ∙ ap words_in c.self.view_is) c.self.invariant.1

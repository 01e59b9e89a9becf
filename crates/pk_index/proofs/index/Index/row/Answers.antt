-- The row of the table at the place.
use Rattle.std.proofs.Common.{◌≡◌, Some, slice_get, subst}
use Rattle.std.specs.List.Sorted.{IsStrictlyIncreasing}
use Rattle.pk_index.specs.Index.{Rows, list_of}
use Rattle.pk_index.specs.Terms.{pair_of, words_in}
use Rattle.pk_index.proofs.TermLemmas.{row_word_at}
use Rattle.pk_index.proofs.index.Index.row.Goals as goal

pub returns-clause-word : goal.returns-clause-word
returns-clause-word c =
    let row = c.row.result in
    subst (λ (rows : Rows). slice_get (words_in rows) c.args.place ≡ Some row.word.now) c.self.view_is
    (row_word_at c.self.inside.lists c.args.place (pair_of row) c.row.ensures.row)

pub returns-clause-list : goal.returns-clause-list
returns-clause-list c =
    let row = c.row.result in
    subst (λ (rows : Rows). list_of rows row.word.now ≡ row.list.now) c.self.view_is c.row.ensures.own

pub returns-clause-rising : goal.returns-clause-rising
returns-clause-rising c = subst IsStrictlyIncreasing c.row.ensures.own (c.self.invariant.0 c.row.result.word.now)

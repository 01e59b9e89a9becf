-- Part by part more of the row is begun; it stands in the text where it ends.
use Rattle.std.proofs.Common.{◌≡◌, ◌∙◌, [], length, refl, sym, subst, rules, arith}
use Rattle.std.proofs.lemmas.List.{length-map}
use Rattle.std.proofs.lemmas.Str.{IsCharBoundary-start}
use Rattle.pk_model.specs.Words.{words_of}
use Rattle.pk_words.specs.Rows.{Continues, texts}
use Rattle.pk_words.proofs.RowLemmas.{all_parts, ended, found, no_row, not_found, part_read}
use Rattle.pk_words.proofs.row.has_row_by.Goals as goal

pub returns-then-is_empty : goal.returns-then-is_empty
returns-then-is_empty c =
    let none : length c.args.sought.now.words.now ≡ 0 = search rules in
    no_row (texts c.args.sought.now.words.now) (words_of c.args.text.now) (rw length-map none)

pub parts-init : goal.parts-init
parts-init c = record {
  boundary = IsCharBoundary-start c.args.text.now c.utf8.text;
  begun = search rules;
  read = record { done = []; split = refl; read = λ rest. refl };
}

pub returns-then-begun-sought : goal.returns-then-begun-sought
returns-then-begun-sought c =
    let row = texts c.args.sought.now.words.now in
    let s = c.args.text.now in
    let r = part_read row s c.range.result.now 0 c.parts.at c.ascii_part_end-end.result c.parts.begun c.in_ok-begun.begun c.range.ensures.value c.ascii_part_end-end.ensures.words c.in_ok-begun.ensures.continues c.parts.invariant.read in
    let full : c.in_ok-begun.begun ≡ length row = c.if-begun-sought.true ∙ sym (length-map c.args.sought.now.words.now _) in
    found row (words_of s) (subst (λ k. Continues row 0 (words_of s) k) full (ended row 0 c.in_ok-begun.begun (words_of s) r.done _ r.split full r.read))

pub parts-preserved : goal.parts-preserved
parts-preserved c = record {
  boundary = c.ascii_part_end-end.ensures.boundary;
  begun = omega (arith, c.in_ok-begun.ensures.within, c.if-begun-sought.false);
  read = part_read (texts c.args.sought.now.words.now) c.args.text.now c.range.result.now 0 c.parts.at c.ascii_part_end-end.result c.parts.begun c.in_ok-begun.begun c.range.ensures.value c.ascii_part_end-end.ensures.words c.in_ok-begun.ensures.continues c.parts.invariant.read;
}

pub returns : goal.returns
returns c =
    let row = texts c.args.sought.now.words.now in
    let s = c.args.text.now in
    not_found row (words_of s) c.parts.begun (rw length-map c.parts.invariant.begun) (all_parts row s 0 c.parts.at c.parts.begun c.parts-test.false c.parts.invariant.read)

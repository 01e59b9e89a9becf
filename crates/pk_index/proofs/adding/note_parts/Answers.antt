-- One more part has its words noted; past the last one they are those of the text.
use Rattle.std.proofs.Common.{◌≡◌, ◌++◌, ◌∙◌, [], ℕ, List, map, drop, slice_range, refl, sym, ap, subst, append_assoc, append-nil}
use Rattle.std.proofs.lemmas.List.{map-append, drop_all}
use Rattle.std.proofs.lemmas.Str.{IsCharBoundary-start}
use Rattle.unicode_segmentation.specs.Word.{words}
use Rattle.pk_model.specs.Words.{folded, words_of}
use Rattle.pk_pieces.proofs.CallerLemmas.{words_nil}
use Rattle.pk_index.specs.Lists.{Notes}
use Rattle.pk_index.proofs.NoteLemmas.{no_words_noted, more_noted, on_err}
use Rattle.pk_index.proofs.adding.note_parts.Goals as goal

pub parts-init : goal.parts-init
parts-init c = record {
  boundary = IsCharBoundary-start c.args.text.now c.utf8.text;
  noted = ([], refl, no_words_noted c.args.number c.args.lists.now);
}

parted : (s : List ℕ) (at end : ℕ) → words (drop at s) ≡ words (slice_range s at end) ++ words (drop end s) → words_of (drop at s) ≡ words_of (slice_range s at end) ++ words_of (drop end s)
unfolding words_of
parted s at end e = ap (map folded) e ∙ map-append folded (words (slice_range s at end)) (words (drop end s))

no_words : words_of [] ≡ []
unfolding words_of
no_words = ap (map folded) words_nil

pub parts-preserved : goal.parts-preserved
parts-preserved c =
    let s = c.args.text.now in
    let at = c.parts.at in
    let end = c.part_end-end.result in
    let done = c.parts.invariant.noted.0 in
    let part = c.range.result.now in
    let rest = words_of (drop end s) in
    let more : words_of (drop at s) ≡ words_of part ++ rest =
    parted s at end c.part_end-end.ensures.words ∙ ap (λ t. words_of t ++ rest) (sym c.range.ensures.value) in
    record {
      boundary = c.part_end-end.ensures.boundary;
      noted = (
        done ++ words_of part,
        c.parts.invariant.noted.1 ∙ ap (λ ws. done ++ ws) more ∙ sym (append_assoc done (words_of part) rest),
        more_noted done (words_of part) c.args.number c.args.lists.now c.parts.lists c.note_part.new.lists c.parts.invariant.noted.2 c.in_ok-note_part.ensures.ok,
      );
    }

pub returns-in_err-note_part-clause-err : goal.returns-in_err-note_part-clause-err
returns-in_err-note_part-clause-err c =
    let done = c.parts.invariant.noted.0 in
    let some = c.in_err-note_part.ensures.err in
    on_err c.from_residual.result _
    (done ++ some.0, more_noted done some.0 c.args.number c.args.lists.now c.parts.lists c.note_part.new.lists c.parts.invariant.noted.2 some.1)

pub returns-clause-ok : goal.returns-clause-ok
returns-clause-ok c =
    let s = c.args.text.now in
    let done = c.parts.invariant.noted.0 in
    let none : words_of (drop c.parts.at s) ≡ [] = ap words_of (drop_all c.parts.at s c.parts-test.false) ∙ no_words in
    let all : words_of s ≡ done = c.parts.invariant.noted.1 ∙ ap (λ ws. done ++ ws) none ∙ append-nil done in
    subst (λ ws. Notes ws c.args.number c.args.lists.now c.parts.lists) (sym all) c.parts.invariant.noted.2

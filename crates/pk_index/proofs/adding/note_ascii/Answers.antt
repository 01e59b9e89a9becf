-- Each word found, folded, is one more; past the last one they are those of the text.
use Rattle.std.proofs.Common.{◌≡◌, ◌∷◌, ◌++◌, ◌≤◌, [], List, ℕ, map, length, slice_range, append-nil, append_assoc, ap, ◌∙◌, sym, subst, cond, IsAscii, arith}
use Rattle.std.specs.Str.{bytes_eq, IsCharBoundary}
use Rattle.std.specs.Char.{to_ascii_lowercase}
use Rattle.std.proofs.lemmas.List.{length-map}
use Rattle.std.proofs.lemmas.Str.{IsCharBoundary-from_ascii}
use Rattle.std.proofs.lemmas.Str.Ascii.{IsAscii-map, lowercase_ascii}
use Rattle.pk_model.specs.Words.{folded, words_of}
use Rattle.pk_pieces.specs.Pieces.{words_from}
use Rattle.pk_pieces.proofs.CallerLemmas.{folded_part, words_from_start}
use Rattle.pk_index.specs.Index.{list_of}
use Rattle.pk_index.specs.Lists.{Notes, with_last}
use Rattle.pk_index.proofs.NoteLemmas.{no_words_noted, one_noted, on_err}
use Rattle.pk_index.proofs.adding.note_ascii.Goals as goal

pub words-init : goal.words-init
unfolding words_of
words-init c =
    let start : words_of c.args.text.now ≡ map folded (words_from c.as_bytes-bytes.result.now 0) =
    ap (map folded) (sym (ap (λ s. words_from s 0) c.as_bytes-bytes.ensures.value ∙ words_from_start c.args.text.now c.utf8.text)) in
    record { within = omega arith; noted = ([], start, no_words_noted c.args.number c.args.lists.now) }

-- the folded text may be cut where the text may be
boundary : (s folded : List ℕ) (i : ℕ) → IsAscii s → folded ≡ map to_ascii_lowercase s → i ≤ length s → IsCharBoundary folded i
boundary s folded i a e le =
    subst (λ t. IsCharBoundary t i) (sym e)
    (IsCharBoundary-from_ascii (map to_ascii_lowercase s) i (IsAscii-map to_ascii_lowercase s lowercase_ascii a) (omega (arith, length-map s to_ascii_lowercase)))

pub range-requires-clause-start_boundary : goal.range-requires-clause-start_boundary
range-requires-clause-start_boundary c = λ _.
    let places = c.in-Some.ensures.places in
    let len = ap length c.as_bytes-bytes.ensures.value in
    boundary c.args.text.now c.as_str-folded.result.now c.in-Some.start c.requires (c.as_str-folded.ensures.value ∙ c.in_ok-lower_into.ensures) (omega (arith, places.1, places.2, len))

pub range-requires-clause-end_boundary : goal.range-requires-clause-end_boundary
range-requires-clause-end_boundary c =
    let places = c.in-Some.ensures.places in
    let len = ap length c.as_bytes-bytes.ensures.value in
    boundary c.args.text.now c.as_str-folded.result.now c.in-Some.end c.requires (c.as_str-folded.ensures.value ∙ c.in_ok-lower_into.ensures) (omega (arith, places.2, len))

pub words-preserved : goal.words-preserved
words-preserved c =
    let n = c.args.number in
    let s = c.as_bytes-bytes.result.now in
    let start = c.in-Some.start in
    let end = c.in-Some.end in
    let done = c.words.invariant.noted.0 in
    let word = folded (slice_range s start end) in
    let places = c.in-Some.ensures.places in
    let left : words_of c.args.text.now ≡ (done ++ word ∷ []) ++ map folded (words_from s end) =
    c.words.invariant.noted.1 ∙ ap (λ ws. done ++ map folded ws) c.in-Some.ensures.words ∙ sym (append_assoc done (word ∷ []) (map folded (words_from s end))) in
    let same : c.range.result.now ≡ word =
    c.range.ensures.value ∙ ap (λ t. slice_range t start end) (c.as_str-folded.ensures.value ∙ c.in_ok-lower_into.ensures)
    ∙ folded_part c.args.text.now start end c.requires ∙ ap (λ t. folded (slice_range t start end)) (sym c.as_bytes-bytes.ensures.value) in
    let old = c.words.lists in
    let new = c.note.new.self in
    record {
      within = places.2;
      noted = (
        done ++ word ∷ [],
        left,
        one_noted done word n c.args.lists.now old new c.words.invariant.noted.2
            (λ w. subst (λ (v : List ℕ). list_of new w ≡ cond (bytes_eq v w) (with_last n (list_of old w)) (list_of old w)) same (c.in_ok-note.ensures.ok w)),
      );
    }

pub returns-in_err-lower_into-clause-err : goal.returns-in_err-lower_into-clause-err
returns-in_err-lower_into-clause-err c = on_err c.from_residual.result _ ([], no_words_noted c.args.number c.args.lists.now)

pub returns-in_err-note-clause-err : goal.returns-in_err-note-clause-err
returns-in_err-note-clause-err c =
    on_err c.from_residual-in_err-note.result _
    (c.words.invariant.noted.0, λ word. c.in_err-note.ensures.err word ∙ c.words.invariant.noted.2 word)

pub returns-clause-ok : goal.returns-clause-ok
returns-clause-ok c =
    let done = c.words.invariant.noted.0 in
    let all : words_of c.args.text.now ≡ done = c.words.invariant.noted.1 ∙ ap (λ ws. done ++ map folded ws) c.in_default.ensures.words ∙ append-nil done in
    subst (λ ws. Notes ws c.args.number c.args.lists.now c.words.lists) (sym all) c.words.invariant.noted.2

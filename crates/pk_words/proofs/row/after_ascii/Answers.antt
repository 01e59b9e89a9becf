-- Each word found, folded, is one more; where the row ends, what is left does not count.
use Rattle.std.proofs.Common.{◌≡◌, ◌++◌, map, length, ap, ◌∙◌, sym, arith}
use Rattle.std.specs.Char.{to_ascii_lowercase}
use Rattle.std.specs.Prelude.{take}
use Rattle.std.proofs.lemmas.List.{length-map}
use Rattle.std.proofs.lemmas.Str.{IsCharBoundary-from_ascii}
use Rattle.pk_model.specs.Tree.{stand_in}
use Rattle.pk_model.specs.Words.{folded, words_of}
use Rattle.pk_pieces.specs.Pieces.{words_from}
use Rattle.pk_pieces.proofs.CallerLemmas.{words_from_start}
use Rattle.pk_words.specs.Rows.{texts}
use Rattle.pk_words.proofs.SkipLemmas.{read_out, read_whole, word_read}
use Rattle.pk_words.proofs.row.after_ascii.Goals as goal

pub words-init : goal.words-init
unfolding words_of
words-init c =
    let bytes = c.as_bytes-bytes.result.now in
    let row = texts c.args.sought.now.words.now in
    let start : words_of c.args.part.now ≡ map folded (words_from bytes 0) =
    ap (map folded) (sym (ap (λ s. words_from s 0) c.as_bytes-bytes.ensures.value ∙ words_from_start c.args.part.now c.utf8.part)) in
    record {
      within = c.skip-at.ensures.high;
      left = c.requires.within;
      read = λ rest. ap (λ ws. stand_in row (take c.args.begun row ++ (ws ++ rest))) start ∙ c.skip-at.ensures.skips rest;
    }

pub range-requires-clause-start_boundary : goal.range-requires-clause-start_boundary
range-requires-clause-start_boundary c = λ _.
    let places = c.in-Some.ensures.places in
    let len = ap length c.as_bytes-bytes.ensures.value in
    IsCharBoundary-from_ascii c.args.part.now c.in-Some.start c.requires.ascii (omega (arith, places.1, places.2, len))

pub range-requires-clause-end_boundary : goal.range-requires-clause-end_boundary
range-requires-clause-end_boundary c =
    let places = c.in-Some.ensures.places in
    let len = ap length c.as_bytes-bytes.ensures.value in
    IsCharBoundary-from_ascii c.args.part.now c.in-Some.end c.requires.ascii (omega (arith, places.2, len))

pub returns-then-left-sought-clause-continues : goal.returns-then-left-sought-clause-continues
returns-then-left-sought-clause-continues c =
    let row = texts c.args.sought.now.words.now in
    let bytes = c.as_bytes-bytes.result.now in
    let read = word_read row c.args.part.now bytes c.as_str.result.now c.args.begun c.words.at c.in-Some.start c.in-Some.end c.words.left c.after-left.result c.requires.ascii c.as_bytes-bytes.ensures.value
    (c.as_str.ensures.value ∙ c.in_ok-lower_into.ensures ∙ ap (map to_ascii_lowercase) c.range.ensures.value) c.in-Some.ensures.words c.after-left.ensures.continues c.words.invariant.read in
    read_whole row c.args.part.now bytes c.args.begun c.in-Some.end c.after-left.result (c.if-left-sought.true ∙ sym (length-map c.args.sought.now.words.now _)) read

pub words-preserved : goal.words-preserved
words-preserved c =
    let row = texts c.args.sought.now.words.now in
    let bytes = c.as_bytes-bytes.result.now in
    let read = word_read row c.args.part.now bytes c.as_str.result.now c.args.begun c.words.at c.in-Some.start c.in-Some.end c.words.left c.after-left.result c.requires.ascii c.as_bytes-bytes.ensures.value
    (c.as_str.ensures.value ∙ c.in_ok-lower_into.ensures ∙ ap (map to_ascii_lowercase) c.range.ensures.value) c.in-Some.ensures.words c.after-left.ensures.continues c.words.invariant.read in
    record {
      within = c.skip.ensures.high;
      left = omega (arith, c.after-left.ensures.more, c.words.invariant.left, c.if-left-sought.false);
      read = λ rest. read rest ∙ c.skip.ensures.skips rest;
    }

pub returns-clause-continues : goal.returns-clause-continues
returns-clause-continues c =
    read_out (texts c.args.sought.now.words.now) c.args.part.now c.as_bytes-bytes.result.now c.args.begun c.words.at c.words.left c.in_default.ensures.words c.words.invariant.read

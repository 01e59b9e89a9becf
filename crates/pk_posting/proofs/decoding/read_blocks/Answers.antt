use Rattle.std.proofs.Common.{◌≡◌, ◌+◌, ◌*◌, [], ◌∷◌, slice_index, arith, refl, ◌∙◌}
use Rattle.pk_posting.proofs.ReadingLemmas.{read_none, read_more, not_begun, four_of, false_is}
use Rattle.pk_posting.proofs.EntryLemmas.{entry_of}
use Rattle.pk_posting.proofs.decoding.read_blocks.Goals as goal

pub loop-k-init : goal.loop-k-init
loop-k-init c = record {
  read = rw (c.requires.none) (read_none c.args.bytes.now c.args.blocks _ (4 + 20 * c.args.blocks) (4 + 20 * c.args.blocks) refl c.requires.head refl);
  memory = refl;
}

pub returns-in_default-clause-damaged : goal.returns-in_default-clause-damaged
returns-in_default-clause-damaged c =
    not_begun c.args.bytes.now c.args.blocks c.loop-k.k c.loop-k.out.items c.loop-k.seed c.loop-k.at c.loop-k.widths c.loop-k-test.true c.loop-k.invariant.read c.in_default.ensures

pub returns-then-not-block_of-clause-damaged : goal.returns-then-not-block_of-clause-damaged
returns-then-not-block_of-clause-damaged c xs s e =
    let given = entry_of c.args.bytes.now c.args.blocks c.loop-k.k c.loop-k.out.items c.loop-k.seed c.loop-k.at c.loop-k.widths c.in-Some.begin_at c.in-Some.begin_widths
    c.loop-k-test.true c.loop-k.invariant.read c.in-Some.ensures xs s e in
    false_is c.block_of.result (c.block_of.ensures.only _ given) c.if-not-block_of.true

pub returns-then-not-is_right-clause-damaged : goal.returns-then-not-is_right-clause-damaged
returns-then-not-is_right-clause-damaged c xs s e =
    let given = entry_of c.args.bytes.now c.args.blocks c.loop-k.k c.loop-k.out.items c.loop-k.seed c.loop-k.at c.loop-k.widths c.in-Some.begin_at c.in-Some.begin_widths
    c.loop-k-test.true c.loop-k.invariant.read c.in-Some.ensures xs s e in
    false_is c.is_right.result (c.is_right.ensures.only _ given).0 c.if-not-is_right.true

pub loop-k-preserved : goal.loop-k-preserved
loop-k-preserved c = record {
  read = rw c.put_numbers.ensures.numbers (
      read_more c.args.bytes.now c.args.blocks c.loop-k.k c.loop-k.out.items c.loop-k.seed c.loop-k.at c.loop-k.widths c.in-Some.begin_at c.in-Some.begin_widths c.block_of.new.xs
      (slice_index c.block_of.new.xs 124 ∷ slice_index c.block_of.new.xs 125 ∷ slice_index c.block_of.new.xs 126 ∷ slice_index c.block_of.new.xs 127 ∷ [])
      c.loop-k-test.true c.loop-k.invariant.read c.in-Some.ensures (c.if-not-is_right.ensures.gives refl) refl (four_of c.block_of.new.xs) (λ ys g. (c.is_right.ensures.only ys g).1));
  memory = c.put_numbers.ensures.memory ∙ c.loop-k.invariant.memory;
}

pub is_right-requires-clause-taken : goal.is_right-requires-clause-taken
is_right-requires-clause-taken c = c.if-not-block_of.ensures.taken refl

pub returns-clause-read : goal.returns-clause-read
returns-clause-read c =
    let all : c.loop-k.k ≡ c.args.blocks = omega arith in
    (c.loop-k.seed, c.loop-k.widths, rw all at c.loop-k.invariant.read)

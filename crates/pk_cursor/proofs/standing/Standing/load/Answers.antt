use Rattle.std.proofs.Common.{◌≡◌, ◌∙◌, ◌*◌, ◌+◌, ℕ, List, arith, sym, ap, slice_index, get_or-take, get_or-drop}
use Rattle.pk_posting.proofs.BlockLemmas.{get_part}
use Rattle.pk_cursor.proofs.standing.Standing.load.Goals as goal

pub returns-then-block-self-clause-at : goal.returns-then-block-self-clause-at
returns-then-block-self-clause-at g c h xs l =
    let blocks = l.blocks in
    record {
      shape = l;
      sound = c.requires.sound;
      index = omega arith;
      count = omega arith;
      numbers = λ i m. ap (λ (s : List ℕ). slice_index s i) (c.in_ok-block_in.ensures.spelled h xs l c.if-block-self.true) ∙ get_part (128 * c.args.block) 128 xs i m;
      inside = λ m. omega arith;
    }

pub returns-clause-at : goal.returns-clause-at
returns-clause-at g c h xs l =
    let blocks = l.blocks in
    let all = l.count in
    let e : c.args.self.now.shape.blocks ≡ c.args.block = omega arith in
    record {
      shape = l;
      sound = c.requires.sound;
      index = omega arith;
      count = omega (arith, c.in_ok-count.ensures.count);
      numbers = λ i m. sym (get_or-take c.in_ok-count.count c.tail_in.new.xs i 0 m) ∙ ap (λ (s : List ℕ). slice_index s i) (c.in_ok-count.ensures.spelled h xs l)
          ∙ get_or-drop (128 * c.args.self.now.shape.blocks) xs i 0 ∙ ap (λ (b : ℕ). slice_index xs (128 * b + i)) e;
      inside = λ m. absurd (omega arith);
    }

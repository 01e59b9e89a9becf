use Rattle.std.proofs.Common.{◌*◌, ◌+◌, refl, arith}
use Rattle.pk_cursor.proofs.SeekingLemmas.{Scanned, first_here, first_inside}
use Rattle.pk_cursor.proofs.standing.Standing.advance.Goals as goal

pub returns-clause-at : goal.returns-clause-at
returns-clause-at c bytes xs n a last =
    let r = c.first_from-self.ensures in
    let s : Scanned c.args.self.now.numbers c.args.self.now.at c.args.self.now.held c.args.target c.first_from-self.result =
    record { from = r.range.0; within = r.range.1; below = r.below; reaches = r.reaches } in
    record {
      index = 128 * c.args.self.now.block + c.first_from-self.result;
      stands = record {
        shape = a.shape;
        sound = a.sound;
        index = refl;
        count = a.count;
        numbers = a.numbers;
        inside = first_inside bytes c.args.self.now xs n c.args.target c.first_from-self.result a s last;
      };
      first = first_here bytes c.args.self.now xs n c.args.target c.first_from-self.result a (omega arith) (omega arith) s last;
    }

-- So many of the bytes are given.
use Rattle.std.proofs.Common.{◌≡◌, ◌≤◌, ◌+◌, ◌-◌, ◌++◌, length, take}
use Rattle.pk_replace.specs.Cause.{NoneFailed}
use Rattle.pk_replace.specs.Writing.{WritesOnly}
use Rattle.pk_merge.specs.Output.{IsSameStretch, given, places_of}
use Rattle.pk_merge.proofs.output.Output.put.Given as goal

abbrev pub decreases-loop-done : goal.decreases-loop-done
decreases-loop-done g l = length l.bytes - l.done

abbrev pub invariant-loop-done : goal.invariant-loop-done
invariant-loop-done g l =
    let disk = g.D.Disk in
    record {
      most : l.done ≤ length l.bytes;
      stretch : IsSameStretch l.fn.self l.self;
      writes : WritesOnly disk (places_of l.fn.self) l.fn.disk l.disk;
      count : l.self.at + l.self.filled ≡ l.fn.self.at + l.fn.self.filled + l.done;
      given_are : disk.honest → given (disk.content l.disk) l.self ≡ given (disk.content l.fn.disk) l.fn.self
          ++ take l.done l.bytes;
      buffer : length l.self.buffer.items ≡ length l.fn.self.buffer.items;
      unfailed : NoneFailed disk l.fn.disk l.disk;
    }

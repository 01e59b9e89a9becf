-- One piece more is written behind those so far: what is written, and what is there.
use Rattle.std.proofs.Common.{rules, ◌≡◌, ◌+◌, ◌++◌, ◌∷◌, [], List, drop, length, map, subst, sym, take}
use Rattle.pk_disk.specs.Disk.{in_range}
use Rattle.pk_replace.specs.Claims.{Claim, Each, IsInside, IsThere, claim_of, places}
use Rattle.pk_replace.specs.Writing.{WritesOnly}
use Rattle.pk_replace.proofs.ClaimLemmas.{fits_one, pieces_more, pieces_split, put_more, put_there, put_within}
use Rattle.pk_replace.proofs.WritingLemmas.{wrote, wrote_part}
use Rattle.pk_replace.proofs.pieces.put_all.Goals as goal

pub write-requires : goal.write-requires
write-requires g c =
    let claims = map claim_of c.args.pieces.now in
    let i = c.loop-piece.piece-index in
    let p = c.piece-item.result in
    let split = pieces_split c.args.pieces.now i p c.loop-piece-test.true c.piece-item.is in
    fits_one g.D.Disk claims (map claim_of (take i c.args.pieces.now)) (claim_of p) (map claim_of (drop (i + 1) c.args.pieces.now)) split c.deref.result.now c.deref.ensures.value c.args.disk.now c.loop-piece.disk c.loop-piece.disk
    (length (g.D.Disk.content c.loop-piece.disk)) (subst (λ size. Each (IsInside size) claims) (sym c.loop-piece.invariant.only.size) c.requires.inside)

pub returns-in_err-write-clause-only : goal.returns-in_err-write-clause-only
returns-in_err-write-clause-only g c =
    let i = c.loop-piece.piece-index in
    let p = c.piece-item.result in
    let split = pieces_split c.args.pieces.now i p c.loop-piece-test.true c.piece-item.is in
    put_within g.D.Disk (map claim_of c.args.pieces.now) (map claim_of (take i c.args.pieces.now)) (claim_of p) (map claim_of (drop (i + 1) c.args.pieces.now)) split c.deref.result.now c.deref.ensures.value c.args.disk.now c.loop-piece.disk c.write.new.self
    c.loop-piece.invariant.only (wrote_part g.D.Disk p.at c.deref.result.now c.loop-piece.disk c.write.new.self c.write.ensures.images c.write.ensures.size c.in_err-write.ensures.part)

pub loop-piece-preserved : goal.loop-piece-preserved
loop-piece-preserved g c =
    let d = g.D.Disk in
    let old = c.args.disk.now in
    let mid = c.loop-piece.disk in
    let now = c.write.new.self in
    let claims = map claim_of c.args.pieces.now in
    let i = c.loop-piece.piece-index in
    let p = c.piece-item.result in
    let front = map claim_of (take i c.args.pieces.now) in
    let rest = map claim_of (drop (i + 1) c.args.pieces.now) in
    let split = pieces_split c.args.pieces.now i p c.loop-piece-test.true c.piece-item.is in
    let more : map claim_of (take (i + 1) c.args.pieces.now) ≡ front ++ claim_of p ∷ [] = pieces_more c.args.pieces.now i p c.loop-piece-test.true c.piece-item.is in
    let inside = subst (λ size. Each (IsInside size) claims) (sym c.loop-piece.invariant.only.size) c.requires.inside in
    let fits = fits_one d claims front (claim_of p) rest split c.deref.result.now c.deref.ensures.value old mid now (length (d.content mid)) inside in
    let one : WritesOnly d (in_range p.at (length c.deref.result.now)) mid now
    = wrote d p.at c.deref.result.now mid now c.write.ensures.images c.write.ensures.size fits c.in_ok-write.ensures.bytes c.in_ok-write.ensures.is_open in
    record {
      only = subst (λ (cs : List Claim). WritesOnly d (places cs) old now) (sym more)
          (put_more d claims front (claim_of p) rest split c.deref.result.now c.deref.ensures.value old mid now c.loop-piece.invariant.only one);
      there = λ honest. subst (Each (IsThere (d.content now))) (sym more)
          (put_there d claims front (claim_of p) rest split c.deref.result.now c.deref.ensures.value old mid now
          c.requires.apart (c.loop-piece.invariant.there honest) (one.changed honest) fits (c.in_ok-write.ensures.bytes honest));
      keeps = search rules;
      writes = search rules;
    }

use Rattle.std.proofs.Common.{◌≡◌, length, arith, refl, inl, inr, slice_index}
use Rattle.pk_vbyte.specs.declared.variable.VFault.TheVariants.{Padded, Short, TooLarge}
use Rattle.pk_vbyte.proofs.Reading.{exact_taken, exact_refused}
use Rattle.pk_vbyte.proofs.Taking.{more_read, ended, exceeded, only_taken, refused}
use Rattle.pk_vbyte.proofs.variable.take.Goals as goal

pub returns-then-bytes-eq0-clause-only : goal.returns-then-bytes-eq0-clause-only
returns-then-bytes-eq0-clause-only c v rest h e = absurd (refused c.args.bytes.now Padded v rest h e (omega arith, omega arith))

pub returns-then-value-ge4294967296-clause-fault : goal.returns-then-value-ge4294967296-clause-fault
returns-then-value-ge4294967296-clause-fault c =
    inr (exceeded c.args.bytes.now c.loop-i.i c.loop-i.n (slice_index c.args.bytes.now c.loop-i.i) c.loop-i.invariant (omega arith) (omega arith) refl (omega arith) (omega arith))

pub returns-then-value-ge4294967296-clause-only : goal.returns-then-value-ge4294967296-clause-only
returns-then-value-ge4294967296-clause-only c v rest h e =
    absurd (refused c.args.bytes.now TooLarge v rest h e (inr (exceeded c.args.bytes.now c.loop-i.i c.loop-i.n (slice_index c.args.bytes.now c.loop-i.i) c.loop-i.invariant (omega arith) (omega arith) refl (omega arith) (omega arith))))

pub returns-then-b-ge128-clause-taken : goal.returns-then-b-ge128-clause-taken
returns-then-b-ge128-clause-taken c =
    ended c.args.bytes.now c.loop-i.i c.loop-i.n (slice_index c.args.bytes.now c.loop-i.i) c.loop-i.invariant (omega arith) refl (omega arith) (omega (arith, (c.type_inv.bytes c.loop-i.i).fits)) (omega arith)

pub returns-then-b-ge128-clause-only : goal.returns-then-b-ge128-clause-only
returns-then-b-ge128-clause-only c v rest h e =
    let t = ended c.args.bytes.now c.loop-i.i c.loop-i.n (slice_index c.args.bytes.now c.loop-i.i) c.loop-i.invariant (omega arith) refl (omega arith) (omega (arith, (c.type_inv.bytes c.loop-i.i).fits)) (omega arith) in
    only_taken c.args.bytes.now _ _ v rest t e

pub loop-i-preserved : goal.loop-i-preserved
loop-i-preserved c =
    more_read c.args.bytes.now c.loop-i.i c.loop-i.n (slice_index c.args.bytes.now c.loop-i.i) c.loop-i.invariant (omega arith) refl (omega arith)

pub returns-then-len-lt5-clause-only : goal.returns-then-len-lt5-clause-only
returns-then-len-lt5-clause-only c v rest h e =
    let all : c.loop-i.i ≡ length c.args.bytes.now = omega arith in
    absurd (refused c.args.bytes.now Short v rest h e (omega arith, rw all at c.loop-i.invariant.run))

pub returns-clause-only : goal.returns-clause-only
returns-clause-only c v rest h e =
    let all : c.loop-i.i ≡ 5 = omega arith in
    absurd (refused c.args.bytes.now TooLarge v rest h e (inl (rw all at c.loop-i.invariant.run)))

pub returns-then-bytes-eq0-clause-exact : goal.returns-then-bytes-eq0-clause-exact
returns-then-bytes-eq0-clause-exact c = exact_refused c.args.bytes.now Padded (λ j. (c.type_inv.bytes j).fits) (omega arith, omega arith)

pub returns-then-value-ge4294967296-clause-exact : goal.returns-then-value-ge4294967296-clause-exact
returns-then-value-ge4294967296-clause-exact c =
    exact_refused c.args.bytes.now TooLarge (λ j. (c.type_inv.bytes j).fits)
    (inr (exceeded c.args.bytes.now c.loop-i.i c.loop-i.n (slice_index c.args.bytes.now c.loop-i.i) c.loop-i.invariant (omega arith) (omega arith) refl (omega arith) (omega arith)))

pub returns-then-b-ge128-clause-exact : goal.returns-then-b-ge128-clause-exact
returns-then-b-ge128-clause-exact c =
    exact_taken c.args.bytes.now _ _ (λ j. (c.type_inv.bytes j).fits)
    (ended c.args.bytes.now c.loop-i.i c.loop-i.n (slice_index c.args.bytes.now c.loop-i.i) c.loop-i.invariant (omega arith) refl (omega arith) (omega (arith, (c.type_inv.bytes c.loop-i.i).fits)) (omega arith))

pub returns-then-len-lt5-clause-exact : goal.returns-then-len-lt5-clause-exact
returns-then-len-lt5-clause-exact c =
    let all : c.loop-i.i ≡ length c.args.bytes.now = omega arith in
    exact_refused c.args.bytes.now Short (λ j. (c.type_inv.bytes j).fits) (omega arith, rw all at c.loop-i.invariant.run)

pub returns-clause-exact : goal.returns-clause-exact
returns-clause-exact c =
    let all : c.loop-i.i ≡ 5 = omega arith in
    exact_refused c.args.bytes.now TooLarge (λ j. (c.type_inv.bytes j).fits) (inl (rw all at c.loop-i.invariant.run))

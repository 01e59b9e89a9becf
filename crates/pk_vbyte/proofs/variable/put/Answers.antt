use Rattle.std.proofs.Common.{◌≡◌, [], ◌∷◌, take, length, slice_set, ◌+◌, ◌/◌, ◌%◌, ◌∙◌, refl, sym, ap, arith}
use Rattle.pk_vbyte.proofs.Digits.{vbyte_1, vbyte_2, vbyte_3, vbyte_4, vbyte_5}
use Rattle.pk_vbyte.proofs.Taking.{five}
use Rattle.pk_vbyte.proofs.variable.put.Goals as goal

pub returns-then-n-lt128-clause-long : goal.returns-then-n-lt128-clause-long
returns-then-n-lt128-clause-long c = sym (ap length (vbyte_1 c.args.n (omega arith)))

pub returns-then-n-lt128-clause-bytes : goal.returns-then-n-lt128-clause-bytes
returns-then-n-lt128-clause-bytes c =
    five (λ xs. take 1 (slice_set xs 0 (c.args.n % 128 + 128)) ≡ (c.args.n % 128 + 128) ∷ []) (λ x y z v w. refl) c.args.out.now c.told-out
    ∙ sym (vbyte_1 c.args.n (omega arith))

pub returns-then-n-lt16384-clause-long : goal.returns-then-n-lt16384-clause-long
returns-then-n-lt16384-clause-long c = sym (ap length (vbyte_2 c.args.n (omega arith) (omega arith)))

pub returns-then-n-lt16384-clause-bytes : goal.returns-then-n-lt16384-clause-bytes
returns-then-n-lt16384-clause-bytes c =
    let a = c.args.n / 128 % 128 in
    let b = c.args.n % 128 + 128 in
    five (λ xs. take 2 (slice_set (slice_set xs 0 a) 1 b) ≡ a ∷ b ∷ []) (λ x y z v w. refl) c.args.out.now c.told-out
    ∙ sym (vbyte_2 c.args.n (omega arith) (omega arith))

pub returns-then-n-lt2097152-clause-long : goal.returns-then-n-lt2097152-clause-long
returns-then-n-lt2097152-clause-long c = sym (ap length (vbyte_3 c.args.n (omega arith) (omega arith)))

pub returns-then-n-lt2097152-clause-bytes : goal.returns-then-n-lt2097152-clause-bytes
returns-then-n-lt2097152-clause-bytes c =
    let a = c.args.n / 16384 % 128 in
    let b = c.args.n / 128 % 128 in
    let d = c.args.n % 128 + 128 in
    five (λ xs. take 3 (slice_set (slice_set (slice_set xs 0 a) 1 b) 2 d) ≡ a ∷ b ∷ d ∷ []) (λ x y z v w. refl) c.args.out.now c.told-out
    ∙ sym (vbyte_3 c.args.n (omega arith) (omega arith))

pub returns-then-n-lt268435456-clause-long : goal.returns-then-n-lt268435456-clause-long
returns-then-n-lt268435456-clause-long c = sym (ap length (vbyte_4 c.args.n (omega arith) (omega arith)))

pub returns-then-n-lt268435456-clause-bytes : goal.returns-then-n-lt268435456-clause-bytes
returns-then-n-lt268435456-clause-bytes c =
    let a = c.args.n / 2097152 % 128 in
    let b = c.args.n / 16384 % 128 in
    let d = c.args.n / 128 % 128 in
    let e = c.args.n % 128 + 128 in
    five (λ xs. take 4 (slice_set (slice_set (slice_set (slice_set xs 0 a) 1 b) 2 d) 3 e) ≡ a ∷ b ∷ d ∷ e ∷ []) (λ x y z v w. refl) c.args.out.now c.told-out
    ∙ sym (vbyte_4 c.args.n (omega arith) (omega arith))

pub returns-clause-long : goal.returns-clause-long
returns-clause-long c = sym (ap length (vbyte_5 c.args.n (omega arith) (omega (arith, c.ranges.n))))

pub returns-clause-bytes : goal.returns-clause-bytes
returns-clause-bytes c =
    let a = c.args.n / 268435456 in
    let b = c.args.n / 2097152 % 128 in
    let d = c.args.n / 16384 % 128 in
    let e = c.args.n / 128 % 128 in
    let f = c.args.n % 128 + 128 in
    five (λ xs. take 5 (slice_set (slice_set (slice_set (slice_set (slice_set xs 0 a) 1 b) 2 d) 3 e) 4 f) ≡ a ∷ b ∷ d ∷ e ∷ f ∷ []) (λ x y z v w. refl) c.args.out.now c.told-out
    ∙ sym (vbyte_5 c.args.n (omega arith) (omega (arith, c.ranges.n)))

-- One word more is hashed.
use Rattle.std.proofs.Common.{◌∙◌, ◌+◌, ◌∷◌, [], ap, arith, length, refl}
use Rattle.std.proofs.lemmas.List.{length-append}
use Rattle.pk_filter.specs.Hashed.{hashed}
use Rattle.pk_plan.specs.Words.{texts}
use Rattle.pk_lookup.proofs.RepeatLemmas.{hashes_more, text_or, texts_long}
use Rattle.pk_lookup.proofs.repeats.hashes_of.Goals as goal

pub loop-place-preserved : goal.loop-place-preserved
loop-place-preserved c =
    let put = c.in_ok-push.ensures.ok in
    let before = c.loop-place.invariant in
    record {
      long = ap length put ∙ length-append c.loop-place.hashes.items (c.of.result ∷ []) ∙ ap (λ n. n + 1) before.long;
      each = hashes_more (texts c.args.words.now) c.loop-place.hashes.items c.push.new.self.items c.loop-place.place c.of.result before.long put before.each
          (c.of.ensures ∙ ap hashed (c.as_bytes.ensures.value ∙ text_or c.args.words.now c.loop-place.place (record { ref_ptr = (0, 0); now = [] }) refl));
    }

pub returns : goal.returns
returns c = record {
  long = (let long = texts_long c.args.words.now in omega (arith, c.loop-place.invariant.long, long));
  each = λ j d lt. (let long = texts_long c.args.words.now in c.loop-place.invariant.each j d (omega (arith, lt, long)));
}

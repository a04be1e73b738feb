-- One block more.
use Rattle.std.proofs.Common.{◌≡◌, ◌+◌, ◌-◌, ◌*◌, ◌<◌, length, get_or, ap, ◌∙◌, arith}
use Rattle.volume.proofs.Loading.{length-loaded, loaded_more, rest_kept}
use Rattle.volume.proofs.contents.load_blocks.Goals as goal

pub loop-j-preserved : goal.loop-j-preserved
loop-j-preserved g c =
    let s = c.args.live.now.store.now in
    let v = g.S.Store.blocks s in
    let xs = c.args.addresses.now in
    let j = c.loop-j.j in
    let part = c.copy_from_slice.ensures.after ∙ c.load-block.ensures in
    let size = ap length part ∙ g.S.Store.laws.sized s (get_or xs j 0) (c.requires.there j c.loop-j-test.true) in
    let few : j < 8 = omega (arith, c.requires.few) in
    let within : j < length xs = omega arith in
    let whole : (512 * j + 512) - 512 * j ≡ 512 = omega arith in
    let loading = c.loop-j.contents in
    let got = c.copy_from_slice.new.self in (
      length-loaded v xs loading got j _ c.loop-j.invariant.0 few within whole size,
      loaded_more v xs loading got j _ c.loop-j.invariant.0 few within whole size c.loop-j.invariant.1 part,
      rest_kept v xs loading got j _ c.loop-j.invariant.0 few within whole size c.args.n c.loop-j-test.true ∙ c.loop-j.invariant.2,
    )

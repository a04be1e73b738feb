-- No cover refuses; a cover more; all covers.
use Rattle.std.proofs.Common.{rules, ◌&&◌, cond, set, get_or, [], ◌<◌, ◌≡◌, is_ok, ap, ◌∙◌, arith}
use Rattle.wallet.specs.Levels.{xor_block}
use Rattle.wallet.specs.Places.{place}
use Rattle.wallet.specs.Standing.{covers_of, key_of, cover_answer}
use Rattle.wallet.proofs.Marking.{covers_accepted, cover_within}
use Rattle.wallet.proofs.Scattering.{spread_to, spread_none, spread-more, spread-all}
use Rattle.wallet.proofs.level.Level.scatter.Goals as goal

pub loop-cover-init : goal.loop-cover-init
loop-cover-init g c =
    let s = c.args.store.now in
    record { changed = spread_none c.args.self.now c.args.b c.args.change.now (g.S.Store.blocks s) (g.S.Store.laws.sized s); moves = g.S.Store.laws.stays s }

pub loop-cover-preserved : goal.loop-cover-preserved
loop-cover-preserved g c =
    let l = c.args.self.now in
    let s = c.args.store.now in
    let i = c.loop-cover.cover in
    let b = c.args.b in
    let ms = g.S.Store.marks s in
    let more : i < l.covers = omega arith in
    let old = g.S.Store.blocks c.loop-cover.store in
    let put = set old (place (covers_of l) i b) (xor_block (get_or c.args.held.now i []) c.args.change.now) in
    let accepted = covers_accepted l ms b c.requires.within c.requires.live i more in
    record {
      changed = spread-more l b c.args.change.now (g.S.Store.blocks s) i (g.S.Store.blocks c.loop-cover.store) (g.S.Store.blocks c.change.new.store) _ c.loop-cover.invariant.changed (c.change.ensures.after ∙ ap (λ r. cond (key_of l i && is_ok r) put old) c.unwrap.ensures) more c.requires.within
          (λ in'. let inside = cover_within l ms b i in' accepted in omega (arith, g.S.Store.laws.paired s))
          (c.requires.held i more);
      moves = g.S.Store.laws.joins s c.loop-cover.store c.change.new.store c.loop-cover.invariant.moves c.change.ensures.moves;
    }

pub unwrap-requires : goal.unwrap-requires
unwrap-requires g c =
    let l = c.args.self.now in
    let s = c.args.store.now in
    let i = c.loop-cover.cover in
    let b = c.args.b in
    let accepted = covers_accepted l (g.S.Store.marks s) b c.requires.within c.requires.live i (omega arith) in
    let same = g.S.Store.laws.keeps s c.loop-cover.store c.loop-cover.invariant.moves in
    let ok = ap is_ok c.change.ensures.answer ∙ ap (λ ms. is_ok (cover_answer l ms b i)) same ∙ accepted in
    search rules

pub returns-clause-after : goal.returns-clause-after
returns-clause-after g c =
    let l = c.args.self.now in
    let bs = g.S.Store.blocks c.args.store.now in
    let all : c.loop-cover.cover ≡ l.covers = omega arith in
    c.loop-cover.invariant.changed ∙ ap (spread_to l c.args.b c.args.change.now bs) all ∙ spread-all l c.args.b c.args.change.now bs

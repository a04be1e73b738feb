-- The ways out: a first place that is not 0, one that is no data block, and the last test.
use Rattle.std.proofs.Common.{◌≡◌, Bool, true, false, ◌&&◌, sym, refl, ◌∙◌, arith}
use Rattle.std.proofs.lemmas.Bool.{and_left, eq-eqb, ne_eqb}
use Rattle.volume.proofs.FreeLists.{good_free-read}
use Rattle.volume.proofs.rules.free_list_is_good.Goals as goal

stray : (good zero within differ answer : Bool) → good ≡ (zero && (within && differ)) → zero ≡ true → false ≡ within → answer ≡ false → answer ≡ good
stray good zero within differ answer is z w a = cc

last : (good zero within differ answer : Bool) → good ≡ (zero && (within && differ)) → zero ≡ true → true ≡ within → answer ≡ differ → answer ≡ good
last good zero within differ answer is z w a = cc

pub returns-then-places-ne0 : goal.returns-then-places-ne0
returns-then-places-ne0 c =
    sym (good_free-read c.args.superblock.now c.args.count c.nfree_of-nfree.result _ c.free_places-places.result c.nfree_of-nfree.ensures refl c.free_places-places.ensures (omega arith) (omega arith) ∙ and_left _ _ (ne_eqb _ 0 c.if-places-ne0.true))

pub returns-else-are_data : goal.returns-else-are_data
returns-else-are_data c =
    stray _ _ _ _ _ (good_free-read c.args.superblock.now c.args.count c.nfree_of-nfree.result c.isize_of-isize.result c.free_places-places.result c.nfree_of-nfree.ensures c.isize_of-isize.ensures c.free_places-places.ensures (omega arith) (omega arith)) (eq-eqb _ 0 c.if-places-ne0.false) c.if-are_data.ensures c.if-are_data.false

pub returns-then-are_data : goal.returns-then-are_data
returns-then-are_data c =
    last _ _ _ _ _ (good_free-read c.args.superblock.now c.args.count c.nfree_of-nfree.result c.isize_of-isize.result c.free_places-places.result c.nfree_of-nfree.ensures c.isize_of-isize.ensures c.free_places-places.ensures (omega arith) (omega arith)) (eq-eqb _ 0 c.if-places-ne0.false) c.if-are_data.ensures c.are_different.ensures

use Rattle.std.proofs.Common.{arith}
use Rattle.qm_docset.proofs.PlacesLeft.{few}
use Rattle.qm_docset.proofs.vec_docset.VecDocSetDocSet.count_including_deleted.Goals as goal

pub overflow_cast-count : goal.overflow_cast-count
overflow_cast-count c =
    let most = few c.args.self.now.cursor c.args.self.now.docs.items c.requires.documents in
    let long = c.args.self.now.docs.ok.0 in
    omega (arith, long)

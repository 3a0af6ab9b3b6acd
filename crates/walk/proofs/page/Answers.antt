-- `page`: each field is the leaf's word's.
use Rattle.walk.proofs.page.Goals as goal

pub returns : goal.returns
returns c = simp (c.build_paddr.ensures, c.ppn-ppn.ensures, c.perms.ensures, c.global.ensures, c.new-pte.ensures)

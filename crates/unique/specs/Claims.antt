-- A promise for each published operation: a record for each crate, a field for each row of docs/PROMISES.md. proofs/Claims.antt has a proof of each.
-- `λ M 𝓤.` stands where the checker leaves a model's resources and their algebra to be found.
use Rattle.memory.specs.contracts as memory
use Rattle.pte.specs.contracts as pte
use Rattle.scheme.specs.contracts as scheme
use Rattle.walker.specs.contracts as walker
use Rattle.walk.specs.contracts as walk
use Rattle.entry.specs.contracts as entry
use Rattle.state.specs.contracts as state
use Rattle.mmu.specs.contracts as mmu
use Rattle.session.specs.contracts as session
use Rattle.host.specs.contracts as host
use Rattle.installer.specs.contracts as installer
use Rattle.layout.specs.contracts as layout
use Rattle.bundle.specs.contracts as bundle
use Rattle.run.specs.contracts as run
use Rattle.image.specs.contracts as image
use Rattle.image_read.specs.contracts as image_read
use Rattle.imaged.specs.contracts as imaged
use Rattle.imaged_run.specs.contracts as imaged_run
use Rattle.ffi.specs.contracts as ffi
use Rattle.unique.specs.OneAnswer.{Promise}

pub record Memory : Type 2 where
  pub is_readable : Promise memory.is_readable.ended (λ M 𝓤. memory.is_readable.clauses) (λ M 𝓤. memory.is_readable.spec)
  pub load32 : Promise memory.load32.ended (λ M 𝓤. memory.load32.clauses) (λ M 𝓤. memory.load32.spec)
  pub store32 : Promise memory.store32.ended (λ M 𝓤. memory.store32.clauses) (λ M 𝓤. memory.store32.spec)

pub record Pte : Type 2 where
  pub valid : Promise pte.Pte.valid.ended (λ M 𝓤. pte.Pte.valid.clauses) (λ M 𝓤. pte.Pte.valid.spec)
  pub perms : Promise pte.Pte.perms.ended (λ M 𝓤. pte.Pte.perms.clauses) (λ M 𝓤. pte.Pte.perms.spec)
  pub global : Promise pte.Pte.global.ended (λ M 𝓤. pte.Pte.global.clauses) (λ M 𝓤. pte.Pte.global.spec)
  pub accessed : Promise pte.Pte.accessed.ended (λ M 𝓤. pte.Pte.accessed.clauses) (λ M 𝓤. pte.Pte.accessed.spec)
  pub dirty : Promise pte.Pte.dirty.ended (λ M 𝓤. pte.Pte.dirty.clauses) (λ M 𝓤. pte.Pte.dirty.spec)
  pub ppn : Promise pte.Pte.ppn.ended (λ M 𝓤. pte.Pte.ppn.clauses) (λ M 𝓤. pte.Pte.ppn.spec)
  pub high : Promise pte.Pte.high.ended (λ M 𝓤. pte.Pte.high.clauses) (λ M 𝓤. pte.Pte.high.spec)
  pub is_leaf : Promise pte.Pte.is_leaf.ended (λ M 𝓤. pte.Pte.is_leaf.clauses) (λ M 𝓤. pte.Pte.is_leaf.spec)
  pub with_a : Promise pte.Pte.with_a.ended (λ M 𝓤. pte.Pte.with_a.clauses) (λ M 𝓤. pte.Pte.with_a.spec)
  pub with_d : Promise pte.Pte.with_d.ended (λ M 𝓤. pte.Pte.with_d.clauses) (λ M 𝓤. pte.Pte.with_d.spec)

pub record Scheme : Type 2 where
  pub number : Promise scheme.refusal.Refusal.number.ended (λ M 𝓤. scheme.refusal.Refusal.number.clauses) (λ M 𝓤. scheme.refusal.Refusal.number.spec)
  pub sv32 : Promise scheme.PagingScheme.sv32.ended (λ M 𝓤. scheme.PagingScheme.sv32.clauses) (λ M 𝓤. scheme.PagingScheme.sv32.spec)
  pub sv39 : Promise scheme.PagingScheme.sv39.ended (λ M 𝓤. scheme.PagingScheme.sv39.clauses) (λ M 𝓤. scheme.PagingScheme.sv39.spec)
  pub is_sv39 : Promise scheme.PagingScheme.is_sv39.ended (λ M 𝓤. scheme.PagingScheme.is_sv39.clauses) (λ M 𝓤. scheme.PagingScheme.is_sv39.spec)
  pub is_bought : Promise scheme.PagingScheme.is_bought.ended (λ M 𝓤. scheme.PagingScheme.is_bought.clauses) (λ M 𝓤. scheme.PagingScheme.is_bought.spec)
  pub format : Promise scheme.PagingScheme.format.ended (λ M 𝓤. scheme.PagingScheme.format.clauses) (λ M 𝓤. scheme.PagingScheme.format.spec)
  pub num_levels : Promise scheme.PagingScheme.num_levels.ended (λ M 𝓤. scheme.PagingScheme.num_levels.clauses) (λ M 𝓤. scheme.PagingScheme.num_levels.spec)
  pub total_bits : Promise scheme.PagingScheme.total_bits.ended (λ M 𝓤. scheme.PagingScheme.total_bits.clauses) (λ M 𝓤. scheme.PagingScheme.total_bits.spec)
  pub is_valid : Promise scheme.PagingScheme.is_valid.ended (λ M 𝓤. scheme.PagingScheme.is_valid.clauses) (λ M 𝓤. scheme.PagingScheme.is_valid.spec)
  pub shift_at : Promise scheme.PagingScheme.shift_at.ended (λ M 𝓤. scheme.PagingScheme.shift_at.clauses) (λ M 𝓤. scheme.PagingScheme.shift_at.spec)
  pub page_bytes_at : Promise scheme.PagingScheme.page_bytes_at.ended (λ M 𝓤. scheme.PagingScheme.page_bytes_at.clauses) (λ M 𝓤. scheme.PagingScheme.page_bytes_at.spec)
  pub entries_at : Promise scheme.PagingScheme.entries_at.ended (λ M 𝓤. scheme.PagingScheme.entries_at.clauses) (λ M 𝓤. scheme.PagingScheme.entries_at.spec)
  pub leaf_masks : Promise scheme.PagingScheme.leaf_masks.ended (λ M 𝓤. scheme.PagingScheme.leaf_masks.clauses) (λ M 𝓤. scheme.PagingScheme.leaf_masks.spec)
  pub root_pa : Promise scheme.PagingScheme.root_pa.ended (λ M 𝓤. scheme.PagingScheme.root_pa.clauses) (λ M 𝓤. scheme.PagingScheme.root_pa.spec)
  pub new : Promise scheme.satp.Satp.new.ended (λ M 𝓤. scheme.satp.Satp.new.clauses) (λ M 𝓤. scheme.satp.Satp.new.spec)
  pub satp_mode : Promise scheme.PagingScheme.satp_mode.ended (λ M 𝓤. scheme.PagingScheme.satp_mode.clauses) (λ M 𝓤. scheme.PagingScheme.satp_mode.spec)
  pub asid_of : Promise scheme.PagingScheme.asid_of.ended (λ M 𝓤. scheme.PagingScheme.asid_of.clauses) (λ M 𝓤. scheme.PagingScheme.asid_of.spec)
  pub root_of : Promise scheme.PagingScheme.root_of.ended (λ M 𝓤. scheme.PagingScheme.root_of.clauses) (λ M 𝓤. scheme.PagingScheme.root_of.spec)
  pub make_satp : Promise scheme.make_satp.ended (λ M 𝓤. scheme.make_satp.clauses) (λ M 𝓤. scheme.make_satp.spec)
  pub make_satp39 : Promise scheme.make_satp39.ended (λ M 𝓤. scheme.make_satp39.clauses) (λ M 𝓤. scheme.make_satp39.spec)
  pub delta_bytes : Promise scheme.map.MapKind.delta_bytes.ended (λ M 𝓤. scheme.map.MapKind.delta_bytes.clauses) (λ M 𝓤. scheme.map.MapKind.delta_bytes.spec)
  pub page_fault_cause : Promise scheme.access.AccessType.page_fault_cause.ended (λ M 𝓤. scheme.access.AccessType.page_fault_cause.clauses) (λ M 𝓤. scheme.access.AccessType.page_fault_cause.spec)

pub record Walker : Type 2 where
  pub find : Promise walker.find.ended (λ M 𝓤. walker.find.clauses) (λ M 𝓤. walker.find.spec)

pub record Walk : Type 2 where
  pub walk : Promise walk.walk.ended (λ M 𝓤. walk.walk.clauses) (λ M 𝓤. walk.walk.spec)

pub record Entry : Type 2 where
  pub entries_for : Promise entry.entries_for.ended (λ M 𝓤. entry.entries_for.clauses) (λ M 𝓤. entry.entries_for.spec)
  pub sets_for : Promise entry.sets_for.ended (λ M 𝓤. entry.sets_for.clauses) (λ M 𝓤. entry.sets_for.spec)

pub record State : Type 2 where
  pub fits : Promise state.fits.ended (λ M 𝓤. state.fits.clauses) (λ M 𝓤. state.fits.spec)

pub record Mmu : Type 2 where
  pub new : Promise mmu.new.ended (λ M 𝓤. mmu.new.clauses) (λ M 𝓤. mmu.new.spec)
  pub set_scheme : Promise mmu.set_scheme.ended (λ M 𝓤. mmu.set_scheme.clauses) (λ M 𝓤. mmu.set_scheme.spec)
  pub reconfigure : Promise mmu.reconfigure.ended (λ M 𝓤. mmu.reconfigure.clauses) (λ M 𝓤. mmu.reconfigure.spec)
  pub flush : Promise mmu.flush.ended (λ M 𝓤. mmu.flush.clauses) (λ M 𝓤. mmu.flush.spec)
  pub flush_vaddr : Promise mmu.flush_vaddr.ended (λ M 𝓤. mmu.flush_vaddr.clauses) (λ M 𝓤. mmu.flush_vaddr.spec)
  pub translate : Promise mmu.translate.ended (λ M 𝓤. mmu.translate.clauses) (λ M 𝓤. mmu.translate.spec)

pub record Session : Type 2 where
  pub set_up : Promise session.set_up.ended (λ M 𝓤. session.set_up.clauses) (λ M 𝓤. session.set_up.spec)

pub record Installer : Type 2 where
  pub install_map_scheme : Promise installer.install_map_scheme.ended (λ M 𝓤. installer.install_map_scheme.clauses) (λ M 𝓤. installer.install_map_scheme.spec)

pub record Layout : Type 2 where
  pub is_good : Promise layout.is_good.ended (λ M 𝓤. layout.is_good.clauses) (λ M 𝓤. layout.is_good.spec)

pub record Bundle : Type 2 where
  pub read : Promise bundle.read.ended (λ M 𝓤. bundle.read.clauses) (λ M 𝓤. bundle.read.spec)

pub record Run : Type 2 where
  pub run_kept : Promise run.run_kept.ended (λ M 𝓤. run.run_kept.clauses) (λ M 𝓤. run.run_kept.spec)
  pub run : Promise run.run.ended (λ M 𝓤. run.run.clauses) (λ M 𝓤. run.run.spec)

pub record Host : Type 2 where
  pub set_scheme : Promise host.set_scheme.ended (λ M 𝓤. host.set_scheme.clauses) (λ M 𝓤. host.set_scheme.spec)
  pub reconfigure : Promise host.reconfigure.ended (λ M 𝓤. host.reconfigure.clauses) (λ M 𝓤. host.reconfigure.spec)
  pub flush : Promise host.flush.ended (λ M 𝓤. host.flush.clauses) (λ M 𝓤. host.flush.spec)
  pub flush_vaddr : Promise host.flush_vaddr.ended (λ M 𝓤. host.flush_vaddr.clauses) (λ M 𝓤. host.flush_vaddr.spec)
  pub translate : Promise host.translate.ended (λ M 𝓤. host.translate.clauses) (λ M 𝓤. host.translate.spec)

pub record Image : Type 2 where
  pub put_state : Promise image.put_state.ended (λ M 𝓤. image.put_state.clauses) (λ M 𝓤. image.put_state.spec)

pub record ImageRead : Type 2 where
  pub state_in : Promise image_read.state_in.ended (λ M 𝓤. image_read.state_in.clauses) (λ M 𝓤. image_read.state_in.spec)

pub record Imaged : Type 2 where
  pub said_number : Promise imaged.said_number.ended (λ M 𝓤. imaged.said_number.clauses) (λ M 𝓤. imaged.said_number.spec)
  pub set_scheme : Promise imaged.set_scheme.ended (λ M 𝓤. imaged.set_scheme.clauses) (λ M 𝓤. imaged.set_scheme.spec)
  pub reconfigure : Promise imaged.reconfigure.ended (λ M 𝓤. imaged.reconfigure.clauses) (λ M 𝓤. imaged.reconfigure.spec)
  pub new : Promise imaged.new.ended (λ M 𝓤. imaged.new.clauses) (λ M 𝓤. imaged.new.spec)
  pub flush : Promise imaged.flush.ended (λ M 𝓤. imaged.flush.clauses) (λ M 𝓤. imaged.flush.spec)
  pub flush_vaddr : Promise imaged.flush_vaddr.ended (λ M 𝓤. imaged.flush_vaddr.clauses) (λ M 𝓤. imaged.flush_vaddr.spec)
  pub translate : Promise imaged.translate.ended (λ M 𝓤. imaged.translate.clauses) (λ M 𝓤. imaged.translate.spec)

pub record ImagedRun : Type 2 where
  pub run_events : Promise imaged_run.run_events.ended (λ M 𝓤. imaged_run.run_events.clauses) (λ M 𝓤. imaged_run.run_events.spec)
  pub run_records : Promise imaged_run.run_records.ended (λ M 𝓤. imaged_run.run_records.clauses) (λ M 𝓤. imaged_run.run_records.spec)

pub record Ffi : Type 2 where
  pub muntesulca_run : Promise ffi.muntesulca_run.ended (λ M 𝓤. ffi.muntesulca_run.clauses) (λ M 𝓤. ffi.muntesulca_run.spec)
  pub muntesulca_run_state : Promise ffi.muntesulca_run_state.ended (λ M 𝓤. ffi.muntesulca_run_state.clauses) (λ M 𝓤. ffi.muntesulca_run_state.spec)
  pub muntesulca_records : Promise ffi.muntesulca_records.ended (λ M 𝓤. ffi.muntesulca_records.clauses) (λ M 𝓤. ffi.muntesulca_records.spec)
  pub muntesulca_events : Promise ffi.muntesulca_events.ended (λ M 𝓤. ffi.muntesulca_events.clauses) (λ M 𝓤. ffi.muntesulca_events.spec)
  pub muntesulca_new : Promise ffi.muntesulca_new.ended (λ M 𝓤. ffi.muntesulca_new.clauses) (λ M 𝓤. ffi.muntesulca_new.spec)
  pub muntesulca_set_scheme : Promise ffi.muntesulca_set_scheme.ended (λ M 𝓤. ffi.muntesulca_set_scheme.clauses) (λ M 𝓤. ffi.muntesulca_set_scheme.spec)
  pub muntesulca_reconfigure : Promise ffi.muntesulca_reconfigure.ended (λ M 𝓤. ffi.muntesulca_reconfigure.clauses) (λ M 𝓤. ffi.muntesulca_reconfigure.spec)
  pub muntesulca_flush : Promise ffi.muntesulca_flush.ended (λ M 𝓤. ffi.muntesulca_flush.clauses) (λ M 𝓤. ffi.muntesulca_flush.spec)
  pub muntesulca_flush_vaddr : Promise ffi.muntesulca_flush_vaddr.ended (λ M 𝓤. ffi.muntesulca_flush_vaddr.clauses) (λ M 𝓤. ffi.muntesulca_flush_vaddr.spec)
  pub muntesulca_translate : Promise ffi.muntesulca_translate.ended (λ M 𝓤. ffi.muntesulca_translate.clauses) (λ M 𝓤. ffi.muntesulca_translate.spec)
  pub muntesulca_install : Promise ffi.muntesulca_install.ended (λ M 𝓤. ffi.muntesulca_install.clauses) (λ M 𝓤. ffi.muntesulca_install.spec)
  pub muntesulca_walk : Promise ffi.muntesulca_walk.ended (λ M 𝓤. ffi.muntesulca_walk.clauses) (λ M 𝓤. ffi.muntesulca_walk.spec)
  pub muntesulca_root_pa : Promise ffi.muntesulca_root_pa.ended (λ M 𝓤. ffi.muntesulca_root_pa.clauses) (λ M 𝓤. ffi.muntesulca_root_pa.spec)
  pub muntesulca_make_satp : Promise ffi.muntesulca_make_satp.ended (λ M 𝓤. ffi.muntesulca_make_satp.clauses) (λ M 𝓤. ffi.muntesulca_make_satp.spec)
  pub muntesulca_make_satp39 : Promise ffi.muntesulca_make_satp39.ended (λ M 𝓤. ffi.muntesulca_make_satp39.clauses) (λ M 𝓤. ffi.muntesulca_make_satp39.spec)
  pub muntesulca_delta_bytes : Promise ffi.muntesulca_delta_bytes.ended (λ M 𝓤. ffi.muntesulca_delta_bytes.clauses) (λ M 𝓤. ffi.muntesulca_delta_bytes.spec)

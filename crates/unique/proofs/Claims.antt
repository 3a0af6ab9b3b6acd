-- A proof of each promise in specs/Claims.antt: p is what the `ensures` says, and the pair says what the result is and what is left. `tt` stands for a
-- parameter that leaves nothing.
use mathlib.Core.Path.{refl, ap, ap₂}
use Rattle.unique.specs.Claims.{Memory, Pte, Scheme, Walker, Walk, Entry, State, Mmu, Session, Installer, Layout, Bundle, Run, Host, Image, ImageRead, Imaged, ImagedRun, Ffi}
use Rattle.unique.proofs.Law.{free, fixed}

pub memory : Memory
memory = record {
  is_readable = λ M 𝓤 𝓛 mem run. (refl, λ κs a. (free 𝓤, fixed 𝓤 _ _ _ (λ r left p. (p, refl))));
  load32 = λ M 𝓤 𝓛 mem run. (refl, λ κs a. (free 𝓤, fixed 𝓤 _ _ _ (λ r left p. (p, refl))));
  store32 = λ M 𝓤 𝓛 mem run. (refl, λ κs a. (free 𝓤, fixed 𝓤 _ _ _ (λ r left p. (p.0, ap (λ ram. (ram, (tt, (tt, tt)))) p.1))));
}

pub pte : Pte
pte = record {
  valid = λ M 𝓤 𝓛 mem run. (refl, λ κs a. (free 𝓤, fixed 𝓤 _ _ _ (λ r left p. (p, refl))));
  perms = λ M 𝓤 𝓛 mem run. (refl, λ κs a. (free 𝓤, fixed 𝓤 _ _ _ (λ r left p. (p, refl))));
  global = λ M 𝓤 𝓛 mem run. (refl, λ κs a. (free 𝓤, fixed 𝓤 _ _ _ (λ r left p. (p, refl))));
  accessed = λ M 𝓤 𝓛 mem run. (refl, λ κs a. (free 𝓤, fixed 𝓤 _ _ _ (λ r left p. (p, refl))));
  dirty = λ M 𝓤 𝓛 mem run. (refl, λ κs a. (free 𝓤, fixed 𝓤 _ _ _ (λ r left p. (p, refl))));
  ppn = λ M 𝓤 𝓛 mem run. (refl, λ κs a. (free 𝓤, fixed 𝓤 _ _ _ (λ r left p. (p, refl))));
  high = λ M 𝓤 𝓛 mem run. (refl, λ κs a. (free 𝓤, fixed 𝓤 _ _ _ (λ r left p. (p, refl))));
  is_leaf = λ M 𝓤 𝓛 mem run. (refl, λ κs a. (free 𝓤, fixed 𝓤 _ _ _ (λ r left p. (p, refl))));
  with_a = λ M 𝓤 𝓛 mem run. (refl, λ κs a. (free 𝓤, fixed 𝓤 _ _ _ (λ r left p. (ap (λ raw. record { raw = raw }) p, refl))));
  with_d = λ M 𝓤 𝓛 mem run. (refl, λ κs a. (free 𝓤, fixed 𝓤 _ _ _ (λ r left p. (ap (λ raw. record { raw = raw }) p, refl))));
}

pub scheme : Scheme
scheme = record {
  number = λ M 𝓤 𝓛 mem run. (refl, λ κs a. (free 𝓤, fixed 𝓤 _ _ _ (λ r left p. (p, refl))));
  sv32 = λ M 𝓤 𝓛 mem run. (refl, λ κs a. (free 𝓤, fixed 𝓤 _ _ _ (λ r left p. (p, refl))));
  sv39 = λ M 𝓤 𝓛 mem run. (refl, λ κs a. (free 𝓤, fixed 𝓤 _ _ _ (λ r left p. (p, refl))));
  is_sv39 = λ M 𝓤 𝓛 mem run. (refl, λ κs a. (free 𝓤, fixed 𝓤 _ _ _ (λ r left p. (p, refl))));
  is_bought = λ M 𝓤 𝓛 mem run. (refl, λ κs a. (free 𝓤, fixed 𝓤 _ _ _ (λ r left p. (p, refl))));
  format = λ M 𝓤 𝓛 mem run. (refl, λ κs a. (free 𝓤, fixed 𝓤 _ _ _ (λ r left p. (p, refl))));
  num_levels = λ M 𝓤 𝓛 mem run. (refl, λ κs a. (free 𝓤, fixed 𝓤 _ _ _ (λ r left p. (p, refl))));
  total_bits = λ M 𝓤 𝓛 mem run. (refl, λ κs a. (free 𝓤, fixed 𝓤 _ _ _ (λ r left p. (p, refl))));
  is_valid = λ M 𝓤 𝓛 mem run. (refl, λ κs a. (free 𝓤, fixed 𝓤 _ _ _ (λ r left p. (p, refl))));
  shift_at = λ M 𝓤 𝓛 mem run. (refl, λ κs a. (free 𝓤, fixed 𝓤 _ _ _ (λ r left p. (p, refl))));
  page_bytes_at = λ M 𝓤 𝓛 mem run. (refl, λ κs a. (free 𝓤, fixed 𝓤 _ _ _ (λ r left p. (p, refl))));
  entries_at = λ M 𝓤 𝓛 mem run. (refl, λ κs a. (free 𝓤, fixed 𝓤 _ _ _ (λ r left p. (p, refl))));
  leaf_masks = λ M 𝓤 𝓛 mem run. (refl, λ κs a. (free 𝓤, fixed 𝓤 _ _ _ (λ r left p. (p, refl))));
  root_pa = λ M 𝓤 𝓛 mem run. (refl, λ κs a. (free 𝓤, fixed 𝓤 _ _ _ (λ r left p. (p, refl))));
  new = λ M 𝓤 𝓛 mem run. (refl, λ κs a. (free 𝓤, fixed 𝓤 _ _ _ (λ r left p. (p, refl))));
  satp_mode = λ M 𝓤 𝓛 mem run. (refl, λ κs a. (free 𝓤, fixed 𝓤 _ _ _ (λ r left p. (p, refl))));
  asid_of = λ M 𝓤 𝓛 mem run. (refl, λ κs a. (free 𝓤, fixed 𝓤 _ _ _ (λ r left p. (p, refl))));
  root_of = λ M 𝓤 𝓛 mem run. (refl, λ κs a. (free 𝓤, fixed 𝓤 _ _ _ (λ r left p. (p, refl))));
  make_satp = λ M 𝓤 𝓛 mem run. (refl, λ κs a. (free 𝓤, fixed 𝓤 _ _ _ (λ r left p. (p, refl))));
  make_satp39 = λ M 𝓤 𝓛 mem run. (refl, λ κs a. (free 𝓤, fixed 𝓤 _ _ _ (λ r left p. (p, refl))));
  delta_bytes = λ M 𝓤 𝓛 mem run. (refl, λ κs a. (free 𝓤, fixed 𝓤 _ _ _ (λ r left p. (p, refl))));
  page_fault_cause = λ M 𝓤 𝓛 mem run. (refl, λ κs a. (free 𝓤, fixed 𝓤 _ _ _ (λ r left p. (p, refl))));
}

pub walker : Walker
walker = record {
  find = λ M 𝓤 𝓛 mem run. (refl, λ κs a. (free 𝓤, fixed 𝓤 _ _ _ (λ r left p. (p, refl))));
}

pub walk : Walk
walk = record {
  walk = λ M 𝓤 𝓛 mem run. (refl, λ κs a. (free 𝓤, fixed 𝓤 _ _ _ (λ r left p. (p.0, ap (λ ram. (tt, (tt, (ram, (tt, tt))))) p.1))));
}

pub entry : Entry
entry = record {
  entries_for = λ M 𝓤 𝓛 mem run. (refl, λ κs a. (free 𝓤, fixed 𝓤 _ _ _ (λ r left p. (p, refl))));
  sets_for = λ M 𝓤 𝓛 mem run. (refl, λ κs a. (free 𝓤, fixed 𝓤 _ _ _ (λ r left p. (p, refl))));
}

pub state : State
state = record {
  fits = λ M 𝓤 𝓛 mem run. (refl, λ κs a. (free 𝓤, fixed 𝓤 _ _ _ (λ r left p. (p, refl))));
}

pub mmu : Mmu
mmu = record {
  new = λ M 𝓤 𝓛 mem run. (refl, λ κs a. (free 𝓤, fixed 𝓤 _ _ _ (λ r left p. (p, refl))));
  set_scheme = λ M 𝓤 𝓛 mem run. (refl, λ κs a. (free 𝓤, fixed 𝓤 _ _ _ (λ r left p. (p, refl))));
  reconfigure = λ M 𝓤 𝓛 mem run. (refl, λ κs a. (free 𝓤, fixed 𝓤 _ _ _ (λ r left p. (p, refl))));
  flush = λ M 𝓤 𝓛 mem run. (refl, λ κs a. (free 𝓤, fixed 𝓤 _ _ _ (λ r left p. (p, refl))));
  flush_vaddr = λ M 𝓤 𝓛 mem run. (refl, λ κs a. (free 𝓤, fixed 𝓤 _ _ _ (λ r left p. (p, refl))));
  translate = λ M 𝓤 𝓛 mem run. (refl, λ κs a. (free 𝓤, fixed 𝓤 _ _ _ (λ r left p. (p.0, ap (λ ram. (tt, (tt, (ram, tt)))) p.1))));
}

pub session : Session
session = record {
  set_up = λ M 𝓤 𝓛 mem run. (refl, λ κs a. (free 𝓤, fixed 𝓤 _ _ _ (λ r left p. (ap₂ (λ said mmu. record { said = said; mmu = mmu }) p.0 p.1, refl))));
}

pub installer : Installer
installer = record {
  install_map_scheme = λ M 𝓤 𝓛 mem run. (refl, λ κs a. (free 𝓤, fixed 𝓤 _ _ _ (λ r left p. (p.0, ap (λ ram. (ram, (tt, (tt, (tt, (tt, tt)))))) p.1))));
}

pub layout : Layout
layout = record {
  is_good = λ M 𝓤 𝓛 mem run. (refl, λ κs a. (free 𝓤, fixed 𝓤 _ _ _ (λ r left p. (p, refl))));
}

pub bundle : Bundle
bundle = record {
  read = λ M 𝓤 𝓛 mem run. (refl, λ κs a. (free 𝓤, fixed 𝓤 _ _ _ (λ r left p. (p, refl))));
}

pub run : Run
run = record {
  run_kept = λ M 𝓤 𝓛 mem run. (
    refl,
    λ κs a. (
      free 𝓤,
      fixed 𝓤 _ _ _ (λ r left p.
          (ap₂ (λ said mmu. record { said = said; mmu = mmu }) p.0 p.1, ap₂ (λ ram out. (tt, (ram, (out, tt)))) p.3 p.2)),
    ),
  );
  run = λ M 𝓤 𝓛 mem run. (refl, λ κs a. (free 𝓤, fixed 𝓤 _ _ _ (λ r left p. (p.0, ap₂ (λ ram out. (tt, (ram, (out, tt)))) p.2 p.1))));
}

pub host : Host
host = record {
  set_scheme = λ M 𝓤 𝓛 mem run. (refl, λ κs a. (free 𝓤, fixed 𝓤 _ _ _ (λ r left p. (ap (λ k. k.said) p, ap (λ k. (k.mmu, (tt, tt))) p))));
  reconfigure = λ M 𝓤 𝓛 mem run. (refl, λ κs a. (free 𝓤, fixed 𝓤 _ _ _ (λ r left p. (ap (λ k. k.said) p, ap (λ k. (k.mmu, (tt, tt))) p))));
  flush_vaddr = λ M 𝓤 𝓛 mem run. (refl, λ κs a. (free 𝓤, fixed 𝓤 _ _ _ (λ r left p. (ap (λ k. k.said) p, ap (λ k. (k.mmu, (tt, tt))) p))));
  flush = λ M 𝓤 𝓛 mem run. (refl, λ κs a. (free 𝓤, fixed 𝓤 _ _ _ (λ r left p. (ap (λ k. k.said) p, ap (λ k. (k.mmu, tt)) p))));
  translate = λ M 𝓤 𝓛 mem run. (refl, λ κs a. (free 𝓤, fixed 𝓤 _ _ _ (λ r left p. (ap (λ k. k.said) p.0, ap₂ (λ k ram. (k.mmu, (tt, (ram, tt)))) p.0 p.1))));
}

pub image : Image
image = record {
  put_state = λ M 𝓤 𝓛 mem run. (refl, λ κs a. (free 𝓤, fixed 𝓤 _ _ _ (λ r left p. (p.0, ap (λ out. (tt, (out, tt))) p.1))));
}

pub image_read : ImageRead
image_read = record {
  state_in = λ M 𝓤 𝓛 mem run. (refl, λ κs a. (free 𝓤, fixed 𝓤 _ _ _ (λ r left p. (p, refl))));
}

pub imaged : Imaged
imaged = record {
  new = λ M 𝓤 𝓛 mem run. (refl, λ κs a. (free 𝓤, fixed 𝓤 _ _ _ (λ r left p. (p.0, ap (λ image. (tt, (image, tt))) p.1))));
  said_number = λ M 𝓤 𝓛 mem run. (refl, λ κs a. (free 𝓤, fixed 𝓤 _ _ _ (λ r left p. (p, refl))));
  flush = λ M 𝓤 𝓛 mem run. (refl, λ κs a. (free 𝓤, fixed 𝓤 _ _ _ (λ r left p. (p.0, ap (λ image. (image, tt)) p.1))));
  flush_vaddr = λ M 𝓤 𝓛 mem run. (refl, λ κs a. (free 𝓤, fixed 𝓤 _ _ _ (λ r left p. (p.0, ap (λ image. (image, (tt, tt))) p.1))));
  translate = λ M 𝓤 𝓛 mem run. (refl, λ κs a. (free 𝓤, fixed 𝓤 _ _ _ (λ r left p. (p.0, ap₂ (λ image rest. (image, (tt, (tt, (tt, rest))))) p.1 (ap₂ (λ ram told. (ram, (told, tt))) p.2 p.3)))));
  set_scheme = λ M 𝓤 𝓛 mem run. (refl, λ κs a. (free 𝓤, fixed 𝓤 _ _ _ (λ r left p. (p.0, ap (λ image. (image, (tt, tt))) p.1))));
  reconfigure = λ M 𝓤 𝓛 mem run. (refl, λ κs a. (free 𝓤, fixed 𝓤 _ _ _ (λ r left p. (p.0, ap (λ image. (image, (tt, tt))) p.1))));
}

pub imaged_run : ImagedRun
imaged_run = record {
  run_events = λ M 𝓤 𝓛 mem run. (refl, λ κs a. (free 𝓤, fixed 𝓤 _ _ _ (λ r left p. (p.0, ap₂ (λ image ram. (image, (tt, (ram, tt)))) p.1 p.2))));
  run_records = λ M 𝓤 𝓛 mem run. (refl, λ κs a. (free 𝓤, fixed 𝓤 _ _ _ (λ r left p. (p.0, ap₂ (λ image rest. (image, (tt, rest))) p.3 (ap₂ (λ ram out. (ram, (out, tt))) p.2 p.1)))));
}

pub ffi : Ffi
ffi = record {
  muntesulca_run = λ M 𝓤 𝓛 mem run. (refl, λ κs a. (free 𝓤, fixed 𝓤 _ _ _ (λ r left p. (p.0, ap₂ (λ ram out. (tt, (ram, (out, tt)))) p.2 p.1))));
  muntesulca_run_state = λ M 𝓤 𝓛 mem run. (refl, λ κs a. (free 𝓤, fixed 𝓤 _ _ _ (λ r left p. (p.0, ap₂ (λ ram rest. (tt, (ram, rest))) p.2 (ap₂ (λ out image. (out, (image, tt))) p.1 p.3)))));
  muntesulca_records = λ M 𝓤 𝓛 mem run. (refl, λ κs a. (free 𝓤, fixed 𝓤 _ _ _ (λ r left p. (p.0, ap₂ (λ image rest. (image, (tt, rest))) p.3 (ap₂ (λ ram out. (ram, (out, tt))) p.2 p.1)))));
  muntesulca_events = λ M 𝓤 𝓛 mem run. (refl, λ κs a. (free 𝓤, fixed 𝓤 _ _ _ (λ r left p. (p.0, ap₂ (λ image ram. (image, (tt, (ram, tt)))) p.1 p.2))));
  muntesulca_new = λ M 𝓤 𝓛 mem run. (refl, λ κs a. (free 𝓤, fixed 𝓤 _ _ _ (λ r left p. (p.0, ap (λ image. (tt, (image, tt))) p.1))));
  muntesulca_set_scheme = λ M 𝓤 𝓛 mem run. (refl, λ κs a. (free 𝓤, fixed 𝓤 _ _ _ (λ r left p. (p.0, ap (λ image. (image, (tt, tt))) p.1))));
  muntesulca_reconfigure = λ M 𝓤 𝓛 mem run. (refl, λ κs a. (free 𝓤, fixed 𝓤 _ _ _ (λ r left p. (p.0, ap (λ image. (image, (tt, tt))) p.1))));
  muntesulca_flush = λ M 𝓤 𝓛 mem run. (refl, λ κs a. (free 𝓤, fixed 𝓤 _ _ _ (λ r left p. (p.0, ap (λ image. (image, tt)) p.1))));
  muntesulca_flush_vaddr = λ M 𝓤 𝓛 mem run. (refl, λ κs a. (free 𝓤, fixed 𝓤 _ _ _ (λ r left p. (p.0, ap (λ image. (image, (tt, tt))) p.1))));
  muntesulca_translate = λ M 𝓤 𝓛 mem run. (refl, λ κs a. (free 𝓤, fixed 𝓤 _ _ _ (λ r left p. (p.0, ap₂ (λ image rest. (image, (tt, (tt, (tt, rest))))) p.1 (ap₂ (λ ram told. (ram, (told, tt))) p.2 p.3)))));
  muntesulca_install = λ M 𝓤 𝓛 mem run. (refl, λ κs a. (free 𝓤, fixed 𝓤 _ _ _ (λ r left p. (p.0, ap (λ ram. (tt, (tt, (ram, tt)))) p.1))));
  muntesulca_walk = λ M 𝓤 𝓛 mem run. (refl, λ κs a. (free 𝓤, fixed 𝓤 _ _ _ (λ r left p. (p.0, ap₂ (λ ram told. (tt, (tt, (tt, (tt, (tt, (ram, (told, tt)))))))) p.1 p.2))));
  muntesulca_root_pa = λ M 𝓤 𝓛 mem run. (refl, λ κs a. (free 𝓤, fixed 𝓤 _ _ _ (λ r left p. (p, refl))));
  muntesulca_make_satp = λ M 𝓤 𝓛 mem run. (refl, λ κs a. (free 𝓤, fixed 𝓤 _ _ _ (λ r left p. (p, refl))));
  muntesulca_make_satp39 = λ M 𝓤 𝓛 mem run. (refl, λ κs a. (free 𝓤, fixed 𝓤 _ _ _ (λ r left p. (p, refl))));
  muntesulca_delta_bytes = λ M 𝓤 𝓛 mem run. (refl, λ κs a. (free 𝓤, fixed 𝓤 _ _ _ (λ r left p. (p, refl))));
}

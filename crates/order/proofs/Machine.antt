-- What one access may do to a cache, whatever its size and policy: it passes by, is answered by an entry, or walks. Nothing here knows what
-- a state is, but for what its valid entries say.
use Rattle.std.specs.Prelude.{Err, Ok, Result}
use Rattle.walk.specs.declared.Fault.{Fault}
use Prim.Native.Nat.{ℕ, ◌+◌, ◌-◌, ◌*◌, ◌/◌, ◌^◌}
use mathlib.Core.Path.{◌≡◌}
use mathlib.Core.Bool.{true, false, not, cond, ◌&&◌}
use mathlib.Core.List.{List}
use Rattle.pte.specs.Entry.{perms_of, global_bit, ppn_of}
use Rattle.scheme.specs.Access.{cause_of}
use Rattle.scheme.specs.Satp.{asid_of}
use Rattle.scheme.specs.Scheme.{format_of}
use Rattle.walk.specs.Rights.{allows, open_to}
use Rattle.walk.specs.Answer.{marked_by, physical_of}
use Rattle.walk.specs.declared.Access.{Access}
use Rattle.walk.specs.declared.LeafAt.{LeafAt}
use Rattle.caches.specs.Terms.{Said}
use Rattle.access.specs.Translate.{is_store}
use Rattle.session.specs.declared.Settings.{Settings}
use Rattle.order.specs.Runs.{Heard, At, Faults}
use Rattle.order.specs.Plain.{passes, plain_walk, verdict_heard}

module _ (s : Settings) where
  abbrev pub page_of : Access → ℕ
  page_of q = q.vaddr / 2 ^ s.scheme.offset_bits

  -- what is remembered of a leaf
  abbrev pub made_by : Access → LeafAt → Said
  made_by q l =
      let class = l.shift - s.scheme.offset_bits in
      record {
        vpn = page_of q / 2 ^ class * 2 ^ class;
        ppn = ppn_of l.raw;
        asid = asid_of s.scheme s.satp;
        perms = perms_of l.raw;
        global = global_bit l.raw;
        dirty = is_store q.kind;
        mask_bits = class;
      }

  -- what an entry answers
  abbrev pub told_by : Said → Access → Heard
  told_by e q =
      cond (allows q.kind e.perms && open_to q.mode e.perms)
      (At (physical_of (format_of s.scheme) e.ppn (s.scheme.offset_bits + e.mask_bits) q.vaddr))
      (Faults (cause_of q.kind) q.vaddr)

  -- the access is to the entry's page, and is no store on an entry that is not dirty; satp is one, so no ASID is asked
  pub record Decides (e : Said) (q : Access) : Type 0 where
    pub page : e.vpn / 2 ^ e.mask_bits ≡ page_of q / 2 ^ e.mask_bits
    pub ready : is_store q.kind && not e.dirty ≡ false

  -- `Holds P t`: each valid entry of t has P
  module _ {State : Type 0} (Holds : (Said → Type 0) → State → Type 0) where
    -- entries are dropped, or change their ages
    abbrev pub Keeps : State → State → Type 1
    Keeps t t' = (P : Said → Type 0) → Holds P t → Holds P t'

    -- the same, and e may be new
    abbrev pub Adds : Said → State → State → Type 1
    Adds e t t' = (P : Said → Type 0) → P e → Holds P t → Holds P t'

    -- a walk leaves nothing new, or its leaf
    abbrev pub Left : Access → Result LeafAt Fault → State → State → Type 1
    Left q (Ok l) t t' = Adds (made_by q l) t t'
    Left q (Err stop) t t' = Keeps t t'

    pub data Step (q : Access) (t : State) (ram : List ℕ) (t' : State) (ram' : List ℕ) (x : Heard) : Type 1 where
      Passes : passes s q ≡ true → Keeps t t' → ram' ≡ ram → x ≡ At q.vaddr → Step q t ram t' ram' x
      Finds : passes s q ≡ false → (e : Said) → ((P : Said → Type 0) → Holds P t → P e) → Decides e q
          → Keeps t t' → ram' ≡ ram → x ≡ told_by e q → Step q t ram t' ram' x
      Walks : passes s q ≡ false → Left q (plain_walk s ram q) t t'
          → ram' ≡ marked_by (format_of s.scheme) q.kind ram (plain_walk s ram q) → x ≡ verdict_heard (format_of s.scheme) q (plain_walk s ram q) → Step q t ram t' ram' x

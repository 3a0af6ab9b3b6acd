-- What is read from a trace bundle.
use Rattle.std.specs.Prelude.{ℕ, ◌+◌, ◌/◌, cond, List, [], ◌∷◌, eqb, Err, None, Ok, Option, Result, Some}
use Rattle.bits.specs.Bits.{bit}
use Rattle.memory.specs.Word.{le_at}
use Rattle.pte.specs.Entry.{perms_of, global_bit}
use Rattle.scheme.specs.declared.PagingScheme.{PagingScheme}
use Rattle.scheme.specs.declared.refusal.Refusal.{Refusal}
use Rattle.scheme.specs.declared.refusal.Refusal.TheVariants.{BadLayout}
use Rattle.entry.specs.declared.TlbConfig.{TlbConfig}
use Rattle.layout.specs.Layout.{byte_at, map_len, ram_len, access_len, bodies_at, map_at, ram_at, first_at, good_of}
use Rattle.session.specs.declared.Settings.{Settings}
use Rattle.bundle.specs.declared.MapBody.{MapBody}
use Rattle.bundle.specs.declared.Parts.{Parts}
use Rattle.session.specs.declared.Event.{Event}
use Rattle.session.specs.declared.Event.TheVariants.{Translate, Flush, FlushAt}
use Rattle.bundle.specs.Codes.{policy_of, access_of, mode_of, rule_of, kind_of}

-- ---- the settings

-- "offset, level count, four widths"
abbrev pub scheme_at : List ℕ → ℕ → PagingScheme
scheme_at s p =
    record {
      offset_bits = byte_at s p;
      level_bits = byte_at s (p + 2) ∷ byte_at s (p + 3) ∷ byte_at s (p + 4) ∷ byte_at s (p + 5) ∷ [];
      levels = byte_at s (p + 1);
    }

-- "u16 entries, ways, policy .., hit latency, miss penalty"
abbrev pub config_at : List ℕ → ℕ → TlbConfig
config_at s p =
    record {
      entry_count = le_at 2 s p;
      associativity = byte_at s (p + 2);
      replacement = policy_of (byte_at s (p + 3));
      hit_latency = byte_at s (p + 4);
      miss_penalty = byte_at s (p + 5);
    }

-- the scheme, and after the configuration "switches (1 enabled, 2 force, 4 TLB on; no others), three zeros, u32 satp"
abbrev pub settings_at : List ℕ → ℕ → Settings
settings_at s p =
    record {
      scheme = scheme_at s p;
      enabled = bit 0 (byte_at s (p + 12));
      force = bit 1 (byte_at s (p + 12));
      tlb_on = bit 2 (byte_at s (p + 12));
      satp = le_at 4 s (p + 16);
    }

-- ---- the map

-- "rule .., kind .., flag bits as in a PTE .., zero, i32 MiB .., u32 root, start, end"
abbrev pub body_at : List ℕ → ℕ → MapBody
body_at s p =
    record {
      spec =
          record {
            kind = kind_of (byte_at s (p + 1)) (le_at 4 s (p + 4));
            perms = perms_of (byte_at s (p + 2));
            global = global_bit (byte_at s (p + 2));
            rule = rule_of (byte_at s p);
          };
      root = le_at 4 s (p + 8);
      window = record { start = le_at 4 s (p + 12); end = le_at 4 s (p + 16) };
    }

-- "0 bytes (none) or 20"
abbrev pub map_part_at : List ℕ → ℕ → ℕ → Option MapBody
map_part_at s p len = cond (eqb len 0) None (Some (body_at s p))

-- ---- the accesses

-- "operation (0 translate, 1 flush, 2 flush address)", from the four numbers of a record
abbrev pub event_of : ℕ → ℕ → ℕ → ℕ → Event
event_of address access privilege operation =
    cond
    (eqb operation 0)
    (Translate (record { vaddr = address; kind = access_of access; mode = mode_of privilege }))
    (cond (eqb operation 1) Flush (FlushAt address))

-- "u32 address, access .., privilege .., operation"
abbrev pub event_at : List ℕ → ℕ → Event
event_at s p = event_of (le_at 4 s p) (byte_at s (p + 4)) (byte_at s (p + 5)) (byte_at s (p + 6))

-- ---- the whole

unfoldable pub parts_of : List ℕ → Parts
parts_of s =
    record {
      config = config_at s (bodies_at 4 + 6);
      settings = settings_at s (bodies_at 4);
      map = map_part_at s (map_at 4) (map_len s);
      ram_start = ram_at 4 s;
      ram_len = ram_len s;
      first = first_at 4 s;
      count = access_len s / 8;
    }

-- 8, "given exactly when": "the bundle breaks its layout"
unfoldable pub read_of : List ℕ → Result Parts Refusal
read_of s = cond (good_of s) (Ok (parts_of s)) (Err BadLayout)

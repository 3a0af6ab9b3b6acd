-- When a trace bundle is laid out well: "the bundle breaks its layout", refusal 8, exactly when `good_of` is false.
-- A version is given by its number, by how many bodies it has and by the bytes of an access record.
use Rattle.std.specs.Prelude.{ℕ, zero, suc, ◌+◌, ◌*◌, ◌/◌, ◌%◌, Bool, true, ◌&&◌, ◌||◌, List, eqb, leb, ltb, length, get_or}
use Rattle.memory.specs.Word.{le_at}

abbrev pub byte_at : List ℕ → ℕ → ℕ
byte_at s i = get_or s i 0

-- ---- the contents

-- "Bytes 0-3: u16 version 1, u16 count 4."
abbrev pub front_ok : ℕ → ℕ → List ℕ → Bool
front_ok version bodies s = eqb (le_at 2 s 0) version && eqb (le_at 2 s 2) bodies

-- "bodies follow at 52": behind a row of 12 bytes for each
abbrev pub bodies_at : ℕ → ℕ
bodies_at bodies = 4 + 12 * bodies

-- row k, from 0: "u32 kind, start, length, kinds 1 to 4 in order"
abbrev pub row_ok : List ℕ → ℕ → ℕ → Bool
row_ok s k start = eqb (le_at 4 s (4 + 12 * k)) (k + 1) && eqb (le_at 4 s (8 + 12 * k)) start

-- the length that row k gives
abbrev pub len_at : List ℕ → ℕ → ℕ
len_at s k = le_at 4 s (12 + 12 * k)

-- n rows from row k on: bodies "without gaps, and the file ends with the last". The sums are exact.
unfoldable pub rows_ok : List ℕ → ℕ → ℕ → ℕ → Bool
rows_ok s zero k start = eqb start (length s)
rows_ok s (suc n) k start = row_ok s k start && rows_ok s n (k + 1) (start + len_at s k)

abbrev pub map_len : List ℕ → ℕ
map_len s = len_at s 1

abbrev pub ram_len : List ℕ → ℕ
ram_len s = len_at s 2

abbrev pub access_len : List ℕ → ℕ
access_len s = len_at s 3

-- "Settings, 20 bytes", "Map, 0 bytes (none) or 20", "RAM, at most 32,768 bytes", "Accesses, 8 bytes each, at most 3,000"
unfoldable pub sizes_ok : ℕ → List ℕ → Bool
sizes_ok width s =
    eqb (len_at s 0) 20
    && ((eqb (map_len s) 0 || eqb (map_len s) 20)
    && (leb (ram_len s) 32768 && (leb (access_len s) (width * 3000) && eqb (access_len s % width) 0)))

-- the contents are there and good, and so are the bodies' lengths
unfoldable pub head_ok : ℕ → ℕ → ℕ → List ℕ → Bool
head_ok version bodies width s =
    leb (bodies_at bodies) (length s)
    && (front_ok version bodies s && (rows_ok s bodies 0 (bodies_at bodies) && sizes_ok width s))

-- ---- the settings

-- "four widths (unused 0)": a width is used where the level count is above its place; "a count above 4 leaves none unused"
abbrev pub unused_ok : List ℕ → ℕ → ℕ → Bool
unused_ok s p count =
    (ltb 0 count || eqb (byte_at s p) 0)
    && ((ltb 1 count || eqb (byte_at s (p + 1)) 0)
    && ((ltb 2 count || eqb (byte_at s (p + 2)) 0) && (ltb 3 count || eqb (byte_at s (p + 3)) 0)))

-- "policy (0 Lru, .., 5 Random)", "switches (1 enabled, 2 force, 4 TLB on; no others), three zeros"
unfoldable pub settings_ok : List ℕ → ℕ → Bool
settings_ok s p =
    unused_ok s (p + 2) (byte_at s (p + 1))
    && (leb (byte_at s (p + 9)) 5
    && (leb (byte_at s (p + 12)) 7
    && (eqb (byte_at s (p + 13)) 0 && (eqb (byte_at s (p + 14)) 0 && eqb (byte_at s (p + 15)) 0))))

-- ---- the map

-- "flag bits as in a PTE from 2, 4, 8, 10h, 20h"
abbrev pub flag_bits_ok : ℕ → Bool
flag_bits_ok b = leb b 63 && eqb (b % 2) 0

-- "rule (0 relative, 1 absolute), kind (0 identity, 1 offset), flag bits .., zero, i32 MiB (0 for identity)"
unfoldable pub map_ok : List ℕ → ℕ → Bool
map_ok s p =
    leb (byte_at s p) 1
    && (leb (byte_at s (p + 1)) 1
    && (flag_bits_ok (byte_at s (p + 2))
    && (eqb (byte_at s (p + 3)) 0 && (eqb (byte_at s (p + 1)) 1 || eqb (le_at 4 s (p + 4)) 0))))

-- ---- the accesses

-- "privilege (0 U, 1 S, 3 M)"
abbrev pub privilege_ok : ℕ → Bool
privilege_ok n = leb n 1 || eqb n 3

-- "access (0 fetch, 1 load, 2 store), privilege (0 U, 1 S, 3 M), operation (0 translate, 1 flush, 2 flush address) ..
-- Unused fields are 0": a flush uses none of the others, and a flush of an address the address alone
abbrev pub fields_ok : ℕ → ℕ → ℕ → ℕ → Bool
fields_ok address access privilege operation =
    (eqb operation 0 && (leb access 2 && privilege_ok privilege))
    || ((eqb access 0 && eqb privilege 0) && (eqb operation 2 || (eqb operation 1 && eqb address 0)))

-- "u32 address, access .., privilege .., operation .., zero"
unfoldable pub record_ok : List ℕ → ℕ → Bool
record_ok s p =
    eqb (byte_at s (p + 7)) 0
    && fields_ok (le_at 4 s p) (byte_at s (p + 4)) (byte_at s (p + 5)) (byte_at s (p + 6))

-- n of them, one after the other
unfoldable pub records_ok : ℕ → List ℕ → ℕ → ℕ → Bool
records_ok width s p zero = true
records_ok width s p (suc n) = record_ok s p && records_ok width s (p + width) n

-- ---- the whole

-- where the map, the RAM and the first access lie
abbrev pub map_at : ℕ → ℕ
map_at bodies = bodies_at bodies + 20

abbrev pub ram_at : ℕ → List ℕ → ℕ
ram_at bodies s = map_at bodies + map_len s

abbrev pub first_at : ℕ → List ℕ → ℕ
first_at bodies s = ram_at bodies s + ram_len s

unfoldable pub bodies_ok : ℕ → ℕ → List ℕ → Bool
bodies_ok bodies width s =
    settings_ok s (bodies_at bodies)
    && ((eqb (map_len s) 0 || map_ok s (map_at bodies)) && records_ok width s (first_at bodies s) (access_len s / width))

unfoldable pub good_in : ℕ → ℕ → ℕ → List ℕ → Bool
good_in version bodies width s = head_ok version bodies width s && bodies_ok bodies width s

-- version 1: four bodies, accesses of 8 bytes
abbrev pub good_of : List ℕ → Bool
good_of s = good_in 1 4 8 s

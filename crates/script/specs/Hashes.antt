-- The hash of a name: its length and its first letters, by FNV-1a.
use Rattle.std.specs.Prelude.{ℕ, ◌-◌, ◌*◌, ◌%◌, ◌^◌, List, cond, fold, bit_xor, ◌==◌}
use Rattle.script.specs.declared.hasher.NameHasher.{NameHasher}

-- before the first write
abbrev pub fresh : NameHasher
fresh = record { hash = 0xcbf2_9ce4_8422_2325; left = 65 }

-- a byte more
abbrev pub mixed : ℕ → ℕ → ℕ
mixed hash b = (bit_xor hash b * 0x0100_0000_01b3) % 2 ^ 64

-- a write more, as long as writes count
abbrev pub fed : NameHasher → List ℕ → NameHasher
fed h bytes = cond (h.left == 0) h (record { hash = fold mixed h.hash bytes; left = h.left - 1 })

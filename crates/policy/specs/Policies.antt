-- Hadoop's five policies by id, and the ids of their names.
use Rattle.std.specs.Prelude.{ℕ, cond, List, Some, None, codes, Option, ◌==◌}
use Rattle.std.specs.Str.{bytes_eq}
use Rattle.policy.specs.declared.table.Policy.{Policy}
use Rattle.policy.specs.declared.codec.Codec.{Codec}
use Rattle.policy.specs.declared.codec.Codec.TheVariants.{Rs, RsLegacy, Xor}

-- a policy with cells of 1024k
abbrev pub row : ℕ → Codec → ℕ → ℕ → Policy
row i c d p = record { id = i; codec = c; data_units = d; parity_units = p; cell_size = 1048576 }

abbrev pub policy_of : ℕ → Option Policy
policy_of i =
    cond (i == 1) (Some (row 1 Rs 6 3))
    (cond (i == 2) (Some (row 2 Rs 3 2))
    (cond (i == 3) (Some (row 3 RsLegacy 6 3))
    (cond (i == 4) (Some (row 4 Xor 2 1))
    (cond (i == 5) (Some (row 5 Rs 10 4)) None))))

-- names count letter by letter, small and capital ones apart
abbrev pub id_of : List ℕ → Option ℕ
id_of name =
    cond (bytes_eq name (codes "RS-6-3-1024k")) (Some 1)
    (cond (bytes_eq name (codes "RS-3-2-1024k")) (Some 2)
    (cond (bytes_eq name (codes "RS-LEGACY-6-3-1024k")) (Some 3)
    (cond (bytes_eq name (codes "XOR-2-1-1024k")) (Some 4)
    (cond (bytes_eq name (codes "RS-10-4-1024k")) (Some 5) None))))

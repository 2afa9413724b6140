-- Unions of sets of bytes.
use Rattle.re_trees.proofs.Prelude.{◌≡◌, fun_ext, arith, Bytes, nothing, union}

-- unions may be grouped in either way
pub union-assoc : (s t r : Bytes) → ◌≡◌ {A = Bytes} (union (union s t) r) (union s (union t r))
union-assoc s t r = fun_ext (λ b. grind arith)

-- the union with no byte is the set
pub union-nothing : (s : Bytes) → ◌≡◌ {A = Bytes} (union s nothing) s
union-nothing s = fun_ext (λ b. grind arith)

-- unions of equal sets are equal
pub both_unions : {a b s r : Bytes} → a ≡ b → s ≡ r → ◌≡◌ {A = Bytes} (union a s) (union b r)
both_unions {a} {b} {s} {r} p q = cc

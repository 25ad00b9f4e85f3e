-- Nodes that lie between two places, one after another.
use Rattle.std.proofs.Common.{length-append, ◌≡◌, ◌⊎◌, inl, inr, ℕ, ◌≤◌, List, [], ◌∷◌, ◌++◌, arith}
use Rattle.std.specs.List.{AllByRecursion}
use Rattle.amqp_fields.proofs.Names.{take-append-le, Node, HasNoKey, AreNested, LieIn, LiesIn, SpansLieIn}

-- where there are no nodes, all lie
pub none_lie : {from to : ℕ} → LieIn from to []
none_lie = record { spans = tt; nested = tt }

-- what holds of each of some things and of others holds of all of them
pub all_append : {A : Type 0} (P : A → Type 0) (xs ys : List A) → AllByRecursion P xs → AllByRecursion P ys → AllByRecursion P (xs ++ ys)
all_append P [] ys one two = two
all_append P (x ∷ xs) ys one two = (one.0, all_append P xs ys one.1 two)

nested_append : (xs ys : List Node) → AreNested xs → AreNested ys → AreNested (xs ++ ys)
nested_append [] ys one two = two
nested_append (x ∷ xs) ys one two = (
  omega (arith, length-append xs ys),
  rw (take-append-le x.inside xs ys one.0) one.1,
  nested_append xs ys one.2 two,
)

-- some nodes and then others
pub append_lie : {from to : ℕ} (xs ys : List Node) → LieIn from to xs → LieIn from to ys → LieIn from to (xs ++ ys)
append_lie {from} {to} xs ys one two =
    record { spans = all_append (SpansLieIn from to) xs ys one.spans two.spans; nested = nested_append xs ys one.nested two.nested }

wider_key : (from to more less : ℕ) (node : Node) → less ≤ from → to ≤ more
    → HasNoKey node ⊎ LiesIn from to node.key_start node.key_length → HasNoKey node ⊎ LiesIn less more node.key_start node.key_length
wider_key from to more less node low high (inl none) = inl none
wider_key from to more less node low high (inr h) = inr (omega arith, omega arith)

-- they lie between places that are further apart
pub wider : (from to less more : ℕ) (nodes : List Node) → less ≤ from → to ≤ more
    → AllByRecursion (SpansLieIn from to) nodes → AllByRecursion (SpansLieIn less more) nodes
wider from to less more [] low high h = tt
wider from to less more (node ∷ nodes) low high h = (
  record {
    span = λ has. let one = h.0.span has in (omega arith, omega arith);
    key = wider_key from to more less node low high h.0.key;
  },
  wider from to less more nodes low high h.1,
)

-- a node alone
pub one_lies : {from to : ℕ} (node : Node) → node.inside ≡ 0 → SpansLieIn from to node → LieIn from to (node ∷ [])
one_lies node none h = record {
  spans = (h, tt);
  nested = (omega arith, rw none tt, tt);
}

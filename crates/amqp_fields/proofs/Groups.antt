-- What fills some bytes has a group of nodes for each thing.
use Rattle.std.proofs.Common.{length-append, length-drop, ◌≡◌, ℕ, zero, suc, ◌+◌, ◌-◌, ◌≤◌, List, [], ◌∷◌, ◌++◌, length, drop, refl, ap, subst, arith}
use Rattle.amqp_fields.proofs.Names.{Judge, Judged, filled, Node, joined, AreNodes, LieIn}
use Rattle.amqp_fields.proofs.Agreeing.{Agree, AgreeAll, agree_next, agree_ok}
use Rattle.amqp_fields.proofs.Lying.{append_lie, none_lie}
use Rattle.amqp_fields.proofs.Spans.{IsPart, Stands, itself, part_stands, stands_drop}

-- where bytes stand in a payload: they end at one place, and none of them is before another
pub record IsAt (payload : List ℕ) (from to : ℕ) (bytes : List ℕ) : Type 0 where
  pub stands : Stands payload to bytes
  pub room : from + length bytes ≤ to

-- a payload stands in itself
pub at_front : (payload : List ℕ) → IsAt payload 0 (length payload) payload
at_front payload = record { stands = itself payload; room = omega arith }

-- the bytes after so many
pub at_drop : {payload : List ℕ} {from to : ℕ} (bytes : List ℕ) (k : ℕ) → IsAt payload from to bytes → k ≤ length bytes
    → IsAt payload from to (drop k bytes)
at_drop {payload = payload} {to = to} bytes k h few =
    record { stands = stands_drop payload bytes to k h.stands few; room = omega (arith, length-drop k bytes) }

-- the content behind a length
pub at_part : {payload : List ℕ} {from to : ℕ} (bytes content : List ℕ) (front used : ℕ) → IsAt payload from to bytes → IsPart bytes content front used
    → IsAt payload (to - length (drop used bytes) - length content) (to - length (drop used bytes)) content
at_part {payload = payload} {to = to} bytes content front used h part =
    let stands = part_stands payload bytes content to front used h.stands part in
    record { stands = stands; room = omega (arith, stands.fits) }

-- A node and those inside it, which mean something. They are at most so many, and lie between two places.
pub record IsGroupOf (Means : Node → List Node → Type 0) (from to most : ℕ) (nodes : List Node) : Type 0 where
  pub node : Node
  pub inside : List Node
  pub nodes_are : nodes ≡ node ∷ inside
  pub inside_is : node.inside ≡ length inside
  pub means : Means node inside
  pub few : length nodes ≤ most
  pub lie : LieIn from to nodes

-- what is decoded is listed as a group of nodes that mean it
abbrev pub Finds : {A : Type 0} → (Node → List Node → A → Type 0) → ℕ → ℕ → ℕ → Judged A → Judged (List Node) → Type 0
Finds Means from to size j k = Agree (λ x nodes n. IsGroupOf (λ node inside. Means node inside x) from to n nodes) size j k

-- what they mean means more
pub regroup : {Means More : Node → List Node → Type 0} {from to few most : ℕ} {nodes : List Node} → IsGroupOf Means from to few nodes → few ≤ most
    → ((node : Node) (inside : List Node) → Means node inside → More node inside) → IsGroupOf More from to most nodes
regroup group less more = record {
  node = group.node;
  inside = group.inside;
  nodes_are = group.nodes_are;
  inside_is = group.inside_is;
  means = more group.node group.inside group.means;
  few = omega arith;
  lie = group.lie;
}

-- a group for each thing
pub record AreFound {A : Type 0} (Means : Node → List Node → A → Type 0) (from to size : ℕ) (xs : List A) (groups : List (List Node)) : Type 0 where
  pub number : length groups ≡ length xs
  pub few : length (joined groups) ≤ size
  pub means : AreNodes Means xs (joined groups)
  pub lie : LieIn from to (joined groups)

module _ {A : Type 0} (judge : Judge A) (listed : Judge (List Node)) (Means : Node → List Node → A → Type 0) (payload : List ℕ) (from to : ℕ)
    (each : (bytes : List ℕ) → IsAt payload from to bytes → Finds Means from to (length bytes) (judge bytes) (listed bytes))
  where
    -- one more in front
    one_more : (x : A) (xs : List A) (nodes : List Node) (groups : List (List Node)) (n size : ℕ) → n ≤ suc size
        → IsGroupOf (λ node inside. Means node inside x) from to n nodes → AreFound Means from to (size - (n - 1)) xs groups
        → AreFound Means from to (suc size) (x ∷ xs) (nodes ∷ groups)
    one_more x xs nodes groups n size fits one others =
        let some = ap length one.nodes_are in
        record {
          number = ap suc others.number;
          few = omega (arith, length-append nodes (joined groups));
          means = record {
            node = one.node;
            inside = one.inside;
            others = joined groups;
            nodes_are = ap (λ (ns : List Node). ns ++ joined groups) one.nodes_are;
            inside_is = one.inside_is;
            means = one.means;
            rest = others.means;
          };
          lie = append_lie _ _ one.lie others.lie;
        }

    -- the nodes of things that fill some bytes are listed, a group for each
    pub filled_found : (k : ℕ) (bytes : List ℕ) → IsAt payload from to bytes
        → AgreeAll (AreFound Means from to (length bytes - k)) (filled judge k bytes) (filled listed k bytes)
    unfolding filled
    filled_found k [] at = agree_ok [] [] (record { number = refl; few = omega arith; means = refl; lie = none_lie })
    filled_found (suc k) (byte ∷ bytes) at =
        subst (λ size. AgreeAll (AreFound Means from to size) (filled judge k bytes) (filled listed k bytes))
        {x = length bytes - k} {y = suc (length bytes) - suc k}
        (omega arith) (filled_found k bytes (at_drop (byte ∷ bytes) 1 at (omega arith)))
    filled_found zero (byte ∷ bytes) at =
        subst
        (λ size.
        AgreeAll (AreFound Means from to size) (filled judge zero (byte ∷ bytes)) (filled listed zero (byte ∷ bytes)))
        {x = suc (length bytes)} {y = suc (length bytes) - 0} (omega arith)
        (agree_next (judge (byte ∷ bytes)) (listed (byte ∷ bytes)) (λ n. filled judge (n - 1) bytes) (λ n. filled listed (n - 1) bytes) (each (byte ∷ bytes) at)
        (λ n few.
        let rest = filled_found (n - 1) bytes (at_drop (byte ∷ bytes) 1 at (omega arith)) in
        record {
          there = λ xs e.
              let one = rest.there xs e in
              (one.0, one.1, λ x nodes group. one_more x xs nodes one.0 n (length bytes) few group one.2);
          back = rest.back;
        }))

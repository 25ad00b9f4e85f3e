-- What values, arrays and tables make, by their parts.
use Rattle.amqp_fields_write.proofs
use Rattle.amqp_fields_write.specs
use proofs.Names.{◌≡◌, ℕ, zero, suc, ◌-◌, ◌<◌, true, false, List, [], ◌∷◌, length, Some, None, Ok, Err, arith, ◌==◌, numbers, tag_at, tag_byte, FieldTag, Node}
use proofs.Names.{Refusal, StandsFirst, ◌≤◌, ◌++◌, take, drop, refl, sym, ap, ◌∙◌, nat_lt, drop_at, take_at, length-append, PassesEnd}
use proofs.Names.tag
use proofs.Names.errors
use proofs.Names.whys
use specs.Made.{Made, Maker, after, faulty, made_array, made_behind, made_each, made_nested, made_table, made_tagged, made_value, misfit, own_index, refusal}
use proofs.Combined.{not_lt}

-- ---- nodes one after another

each_passed : (make : Maker) (end k : ℕ) (nodes : List Node) → made_each make end k nodes ≡ made_each make end 0 (drop k nodes)
unfolding made_each
each_passed make end zero nodes = refl
each_passed make end (suc k) [] = refl
each_passed make end (suc k) (node ∷ nodes) = each_passed make end k nodes

pub each_first : (make : Maker) (end : ℕ) (node : Node) (others : List Node) → node.inside ≤ length others
    → made_each make end 0 (node ∷ others)
    ≡ after (make (end - length (drop node.inside others)) node (take node.inside others)) (made_each make end 0 (drop node.inside others))
unfolding made_each
each_first make end node others le =
    rw (not_lt (length others) node.inside le, each_passed make end node.inside others)

pub each_misfit : (make : Maker) (end : ℕ) (node : Node) (others : List Node) → length others < node.inside
    → made_each make end 0 (node ∷ others) ≡ misfit (end - length (node ∷ others))
unfolding made_each
each_misfit make end node others lt =
    let more : nat_lt (length others) node.inside ≡ true = grind (numbers, lt) in rw more

-- the nodes behind the first one are those inside it and the others
module _ {nodes inside others : List Node} {node : Node} (h : StandsFirst nodes node inside others) where
  pub passed : drop node.inside (inside ++ others) ≡ others
  passed = drop_at inside others node.inside (sym h.inside_is)

  pub held : take node.inside (inside ++ others) ≡ inside
  held = take_at inside others node.inside (sym h.inside_is)

  within : node.inside ≤ length (inside ++ others)
  within = omega (arith, h.inside_is, length-append inside others)

  pub not_past : nat_lt (length (inside ++ others)) node.inside ≡ false
  not_past = not_lt (length (inside ++ others)) node.inside within

-- by the first node, those inside it, and the others
pub each_next : (make : Maker) (end : ℕ) {nodes inside others : List Node} {node : Node} → StandsFirst nodes node inside others
    → made_each make end 0 nodes ≡ after (make (end - length others) node inside) (made_each make end 0 others)
each_next make end {nodes} {inside} {others} {node} h =
    ap (made_each make end 0) h.nodes_are ∙ each_first make end node (inside ++ others) (within h) ∙ rw (passed h, held h)

-- a node whose insides would pass the end is refused
pub each_passing : (make : Maker) (end : ℕ) (nodes : List Node) → PassesEnd nodes → 0 < length nodes → made_each make end 0 nodes ≡ misfit (end - length nodes)
each_passing make end [] h some = absurd (omega (arith, some))
each_passing make end (node ∷ others) h some = each_misfit make end node others (h node others refl)

-- no nodes make no bytes
pub each_none : (make : Maker) (end : ℕ) → made_each make end 0 [] ≡ Ok []
unfolding made_each
each_none make end = refl

-- where no node is left, nothing more is made
pub none_left : (make : Maker) (end : ℕ) (nodes : List Node) → length nodes ≡ 0 → made_each make end 0 nodes ≡ Ok []
none_left make end [] none = each_none make end
none_left make end (node ∷ nodes) none = absurd (omega (arith, none))

-- ---- after a tag

-- where no more may be nested, nothing is
pub deep_nested : (pool : List ℕ) (depth_left : ℕ) → depth_left ≡ 0 → made_nested pool depth_left ≡ None
unfolding made_nested
deep_nested pool depth_left none = rw none

nested_some : (pool : List ℕ) (depth_left : ℕ) → 0 < depth_left → made_nested pool depth_left ≡ Some (depth_left - 1, made_value pool (depth_left - 1))
unfolding made_nested made_value
nested_some pool zero some = absurd (omega (arith, some))
nested_some pool (suc d) some = let less : suc d - 1 ≡ d = omega arith in rw less

module _ (pool : List ℕ) (depth_left : ℕ) (t : FieldTag) (end : ℕ) (node : Node) (inside : List Node) where
  abbrev Behind : Made → Type 0
  Behind made = made_behind pool (made_nested pool depth_left) t end node inside ≡ made

  -- where no more may be nested, an array is refused as too deep
  pub deep_array : depth_left ≡ 0 → t ≡ tag.FieldArray → Behind (faulty (own_index end inside) errors.TooDeep)
  unfolding made_behind
  deep_array none is = rw (deep_nested pool depth_left none, is)

  -- where no more may be nested, a table is refused as too deep
  pub deep_table : depth_left ≡ 0 → t ≡ tag.FieldTable → Behind (faulty (own_index end inside) errors.TooDeep)
  unfolding made_behind
  deep_table none is = rw (deep_nested pool depth_left none, is)

  -- an array is made one level deeper, where one more may be nested
  pub array_behind : 0 < depth_left → t ≡ tag.FieldArray → Behind (made_array pool (depth_left - 1) (made_value pool (depth_left - 1)) end node inside)
  unfolding made_behind
  array_behind some is = rw (nested_some pool depth_left some, is)

  -- a table is made one level deeper, where one more may be nested
  pub table_behind : 0 < depth_left → t ≡ tag.FieldTable → Behind (made_table pool (depth_left - 1) (made_value pool (depth_left - 1)) end node inside)
  unfolding made_behind
  table_behind some is = rw (nested_some pool depth_left some, is)

-- ---- a tag and its value

module _ (pool : List ℕ) (depth_left end : ℕ) (node : Node) (inside : List Node) where
  -- a node whose kind is no tag byte is refused
  pub value_unknown : tag_at node.kind ≡ None → made_value pool depth_left end node inside ≡ misfit (own_index end inside)
  unfolding made_value made_tagged
  value_unknown is = rw is

  -- a node whose kind is a tag byte that is only read is refused
  pub value_read_only : (t : FieldTag) → tag_at node.kind ≡ Some t → (tag_byte t ≡ node.kind → ⊥)
      → made_value pool depth_left end node inside ≡ misfit (own_index end inside)
  unfolding made_value made_tagged
  value_read_only t is differs = let other : (tag_byte t == node.kind) ≡ false = grind (numbers, differs) in rw (is, other)

  -- a value whose tag byte is one that is written is made of that byte and what stands behind it
  pub value_parts : (t : FieldTag) → tag_at node.kind ≡ Some t → tag_byte t ≡ node.kind
      → made_value pool depth_left end node inside ≡ after (Ok (node.kind ∷ [])) (made_behind pool (made_nested pool depth_left) t end node inside)
  unfolding made_value made_tagged
  value_parts t is same = let holds : (tag_byte t == node.kind) ≡ true = grind (numbers, same) in rw (is, holds, same)

-- ---- what fills a table or an array

-- a refusal of a node for a bad argument is that of a misfit
pub misfits : {A : Type 0} {place index : ℕ} {bad : Refusal} → index ≡ place → bad ≡ refusal index whys.BadArgument → misfit {A = A} place ≡ Err bad
misfits at is = rw (is, at)

-- nodes are made of the first one, with those inside it, and of the others
pub next_parts : (make : Maker) (end : ℕ) {nodes inside others : List Node} {node : Node} {last : ℕ} → StandsFirst nodes node inside others
    → last ≡ end - length others → made_each make end 0 nodes ≡ after (make last node inside) (made_each make end 0 others)
next_parts make end first at = rw at (each_next make end first)

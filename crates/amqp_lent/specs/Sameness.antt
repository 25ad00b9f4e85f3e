-- Whether borrowed values, arrays and tables stand for the same: a test on their codes, which
-- decides whether they are equal.
use Rattle.std.specs.Prelude.{◌&&◌, nat_eq, List, Bool, true, false}
use Rattle.std.specs.Bool.{Decides}
use Rattle.std.specs.Coded.{Coded, coded_list, coded×, coded_ℕ}
use Rattle.std.specs.Cmp.{IsEquivalence, first_so, second_so, decided, unsigned_Decides}
use Rattle.std.proofs.Common.{◌≡◌, true≢false, refl, sym, ap, ap₂, subst}
use base.Stored.{Gv, gnil, gnum, gcons}
use Rattle.amqp_types.specs.Values.{FieldValue, Entry}
use Rattle.amqp_types.specs.ValueCodes.{value_code}

-- both trees have the same numbers at the same places
abbrev same_tree : Gv → Gv → Bool
same_tree gnil gnil = true
same_tree (gnum m) (gnum n) = nat_eq m n
same_tree (gcons a b) (gcons c d) = same_tree a c && same_tree b d
same_tree a b = false

-- both values have one code, and so are of one kind with the same content at every depth
abbrev pub same_value : FieldValue → FieldValue → Bool
same_value v w = same_tree (value_code.code v) (value_code.code w)

-- the codes of arrays
abbrev pub items_code : Coded (List FieldValue)
items_code = coded_list value_code

-- both arrays have the same values in the same order
abbrev pub same_items : List FieldValue → List FieldValue → Bool
same_items vs ws = same_tree (items_code.code vs) (items_code.code ws)

-- the codes of tables
abbrev pub entries_code : Coded (List Entry)
entries_code = coded_list (coded× (coded_list coded_ℕ) value_code)

-- both tables have the same keys with the same values, in the same order
abbrev pub same_entries : List Entry → List Entry → Bool
same_entries es fs = same_tree (entries_code.code es) (entries_code.code fs)

-- ---- each test decides whether the two are equal

trees_same : (a b : Gv) → same_tree a b ≡ true → a ≡ b
trees_same gnil gnil h = refl
trees_same (gnum m) (gnum n) h = ap gnum ((unsigned_Decides m n).0 h)
trees_same (gcons a b) (gcons c d) h =
    ap₂ gcons (trees_same a c (first_so (same_tree a c) (same_tree b d) h))
    (trees_same b d (second_so (same_tree a c) (same_tree b d) h))
trees_same a b h = absurd (true≢false (sym h))

tree_itself : (a : Gv) → same_tree a a ≡ true
tree_itself gnil = refl
tree_itself (gnum n) = (unsigned_Decides n n).1 refl
tree_itself (gcons a b) = ap₂ ◌&&◌ (tree_itself a) (tree_itself b)

code_decides : {A : Type 0} (c : Coded A) (x y : A)
    → Decides (same_tree (c.code x) (c.code y)) (x ≡ y)
code_decides {A} c x y = (
  λ h. c.inj x y (trees_same _ _ h),
  λ e. let P : A → Type 0 = λ z. same_tree (c.code x) (c.code z) ≡ true in
      subst P e (tree_itself (c.code x)),
)

-- the test on values holds exactly where they are equal
pub same_value-decides : (v w : FieldValue) → Decides (same_value v w) (v ≡ w)
same_value-decides = code_decides value_code

-- the test on arrays holds exactly where they are equal
pub same_items-decides : (vs ws : List FieldValue) → Decides (same_items vs ws) (vs ≡ ws)
same_items-decides = code_decides items_code

-- the test on tables holds exactly where they are equal
pub same_entries-decides : (es fs : List Entry) → Decides (same_entries es fs) (es ≡ fs)
same_entries-decides = code_decides entries_code

-- each test is an equivalence, as `Eq` requires
pub same_value_laws : IsEquivalence same_value
same_value_laws = decided same_value same_value-decides

pub same_items_laws : IsEquivalence same_items
same_items_laws = decided same_items same_items-decides

pub same_entries_laws : IsEquivalence same_entries
same_entries_laws = decided same_entries same_entries-decides

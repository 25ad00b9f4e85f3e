-- What a search of the tables finds.
use Rattle.std.proofs.Common.{Bor, ◌≡◌, ◌∙◌, ap, sym, ℕ, zero, suc, ◌-◌, ◌<◌, ◌≤◌, Bool, true, List, [], ◌∷◌, ◌++◌, length, take, drop, get_or, Option}
use Rattle.std.proofs.Common.{Some, None, refl, arith, rules}
use Rattle.std.specs.Prelude.{◌==◌, map, is_some, nat_lt, option_copied, option_map, option_and_then, slice_get, IfSome}
use Rattle.std.proofs.lemmas.Option.{slice_get-get_or, slice_get-map, slice_get_past}
use Rattle.std.proofs.lemmas.List.{take_all}
use Rattle.std.proofs.lemmas.Grind.{common_steps}
use Rattle.std.specs.List.{find, flat_map, list_all}
use Rattle.std.specs.Map.{lookup}
use Rattle.std.proofs.lemmas.Map.Made.{lookup-map_values}
use Rattle.amqp_types.specs.Rows.{Row, classes, rows_of, slots_at}
use Rattle.amqp_names.specs.declared.naming.Class.{Class}
use Rattle.amqp_names.specs.declared.naming.Method.{Method}
use Rattle.amqp_names.specs.declared.naming.MethodAt.{MethodAt}
use Rattle.amqp_names.specs.Naming.{ClassNames, MethodNames}
use Rattle.amqp_names.specs.Names.{class_names}
use Rattle.amqp_names.specs.Kinds.{kinds_in}
use Rattle.amqp_names.specs.Tables.{all_methods, class_at, class_kinds, class_names_of, field_name, kinds_at, known_kinds, known_rows, located, method_in}
use Rattle.amqp_names.specs.Tables.{method_kinds, method_names, row_kinds}

-- the first of the images that passes is the image of the first whose image passes
pub find-map : {X Y : Type 0} (v : X → Y) (test : Y → Bool) (xs : List X) → find test (map v xs) ≡ option_map v (find (λ x. test (v x)) xs)
find-map v test [] = refl
find-map v test (x ∷ xs) = grind (arith, find-map v test xs)

-- the same of a look-up by keys
pub lookup-map : {X Y : Type 0} (key : X → ℕ) (v : X → Y) (test : ℕ → Bool) (pair : X → ℕ × Y) (same : (x : X) → pair x ≡ (key x, v x)) (xs : List X)
    → lookup test (map pair xs) ≡ option_map v (find (λ x. test (key x)) xs)
lookup-map key v test pair same [] = refl
lookup-map key v test pair same (x ∷ xs) = rw (same x) (grind (arith, lookup-map key v test pair same xs))

-- ---- classes

-- the names of what is found
pub class_named : (id : ℕ) (xs : List Class) (r : Option Class) → map class_names_of xs ≡ class_names
    → r ≡ find (λ c. id == c.id) xs → option_map class_names_of r ≡ class_at id
class_named id xs r names found =
    ap (option_map class_names_of) found ∙ (sym (find-map class_names_of (λ n. id == n.id) xs) ∙ ap (find (λ (n : ClassNames). id == n.id)) names)

-- its kinds
pub class_rows : (id : ℕ) (xs : List Class) (r : Option Class) → map known_kinds xs ≡ map known_rows classes
    → r ≡ find (λ c. id == c.id) xs → option_map class_kinds r ≡ option_map row_kinds (rows_of id)
unfolding rows_of
class_rows id xs r kinds found =
    ap (option_map class_kinds) found
    ∙ (sym (lookup-map (λ c. c.id) class_kinds (λ k. id == k) known_kinds (λ c. refl) xs)
    ∙ (ap (lookup (λ k. id == k)) kinds
    ∙ lookup-map_values row_kinds (λ k. id == k) classes))

-- ---- methods

-- the names of what is found
pub method_named : (class id : ℕ) (c : Class) (r : Option Method) → Some (class_names_of c) ≡ class_at class
    → r ≡ find (λ m. id == m.id) c.methods.now → option_map method_names r ≡ method_in class id
method_named class id c r names found =
    ap (option_map method_names) found
    ∙ (sym (find-map method_names (λ n. id == n.id) c.methods.now)
    ∙ ap (option_and_then (λ (n : ClassNames). find (λ m. id == m.id) n.methods)) names)

-- where there is no class
pub no_class : (class id : ℕ) → None ≡ class_at class → None ≡ method_in class id
no_class class id names = ap (option_and_then (λ (n : ClassNames). find (λ m. id == m.id) n.methods)) names

-- the kinds of a method among the rows of its class
row_kinds_found : (id : ℕ) (c : Class) (r : Option Method) (rows : Option (List Row))
    → Some (class_kinds c) ≡ option_map row_kinds rows → r ≡ find (λ m. id == m.id) c.methods.now
    → option_map method_kinds r ≡ option_map kinds_in (option_and_then (λ rows. lookup (λ k. id == k) rows) rows)
row_kinds_found id c r None kinds found = search rules
row_kinds_found id c r (Some rows) kinds found =
    let same : class_kinds c ≡ row_kinds rows = grind arith in
    ap (option_map method_kinds) found
    ∙ (sym (lookup-map (λ m. m.id) method_kinds (λ k. id == k) (λ m. (m.id, method_kinds m)) (λ m. refl) c.methods.now)
    ∙ (ap (lookup (λ k. id == k)) same
    ∙ lookup-map_values kinds_in (λ k. id == k) rows))

-- the kinds of what is found
pub method_row : (class id : ℕ) (c : Class) (r : Option Method)
    → Some (class_kinds c) ≡ option_map row_kinds (rows_of class) → r ≡ find (λ m. id == m.id) c.methods.now
    → option_map method_kinds r ≡ kinds_at class id
unfolding slots_at
method_row class id c r kinds found = row_kinds_found id c r (rows_of class) kinds found

-- where there are no rows of the class
no_row_kinds : (id : ℕ) (rows : Option (List Row)) → None ≡ option_map row_kinds rows
    → None ≡ option_map kinds_in (option_and_then (λ rows. lookup (λ k. id == k) rows) rows)
no_row_kinds id None kinds = refl
no_row_kinds id (Some rows) kinds = search rules

-- the same of a class
pub no_rows : (class id : ℕ) → None ≡ option_map row_kinds (rows_of class) → None ≡ kinds_at class id
unfolding slots_at
no_rows class id kinds = no_row_kinds id (rows_of class) kinds

-- ---- by places

-- an element of the first of two lists
get_first : {X : Type 0} (xs ys : List X) (k : ℕ) (x : X) → slice_get xs k ≡ Some x → Some x ≡ slice_get (xs ++ ys) k
get_first [] ys k x at = search rules
get_first (y ∷ xs) ys zero x at = sym at
get_first (y ∷ xs) ys (suc k) x at = get_first xs ys k x at

-- an element of the second
get_second : {X : Type 0} (xs ys : List X) (k : ℕ) → slice_get xs k ≡ None → slice_get ys (k - length xs) ≡ slice_get (xs ++ ys) k
get_second [] ys k at = grind arith
get_second (y ∷ xs) ys zero at = search rules
get_second (y ∷ xs) ys (suc k) at = let e : suc k - suc (length xs) ≡ k - length xs = omega arith in ap (slice_get ys) e ∙ get_second xs ys k at

-- what `get` returns
pub got : {X : Type 0} (xs : List X) (k : ℕ) (r : Option (Bor X)) → is_some r ≡ nat_lt k (length xs)
    → IfSome r (λ x. x.now ≡ get_or xs k x.now) → option_copied r ≡ slice_get xs k
got xs k None some at = let past : length xs ≤ k = grind arith in sym (slice_get_past xs k past)
got xs k (Some x) some at = let within : k < length xs = grind arith in sym (slice_get-get_or xs k x.now within ∙ ap Some (sym at))

-- what is seen of a copy of it
pub got_seen : {X Y : Type 0} (v : X → Y) (xs : List X) (ys : List Y) (k : ℕ) (r : Option (Bor X)) (copy : Option X) → map v xs ≡ ys → copy ≡ option_copied r
    → is_some r ≡ nat_lt k (length xs) → IfSome r (λ x. x.now ≡ get_or xs k x.now) → option_map v copy ≡ slice_get ys k
got_seen v xs ys k r copy seen copied some at =
    ap (option_map v) (copied ∙ got xs k r some at) ∙ (sym (slice_get-map v xs k) ∙ ap (λ (l : List _). slice_get l k) seen)

-- what follows the first of some classes
others_are : (c : Class) (cs : List Class) → take (length (c ∷ cs) - 1) (drop 1 (c ∷ cs)) ≡ cs
others_are c cs = take_all (length (c ∷ cs) - 1) cs (omega arith)

-- what is seen of the methods of classes, one after another, each with the id of its class
module _ {A X : Type 0} (see : Method → X) (of : Class → A) (methods : A → List (ℕ × X))
    (are : (c : Class) → methods (of c) ≡ map (λ x. (c.id, x)) (map see c.methods.now)) where
  abbrev seen_in : List Class → List (ℕ × X)
  seen_in cs = flat_map methods (map of cs)

  -- of a method, with the id of a class
  abbrev in_class : Class → Method → ℕ × X
  in_class c m = (c.id, see m)

  -- the same of what is seen
  abbrev beside : Class → X → ℕ × X
  beside c x = (c.id, x)

  -- an element of a class
  in_front : (c : Class) (k : ℕ) → slice_get (methods (of c)) k ≡ option_map (in_class c) (slice_get c.methods.now k)
  in_front c k =
      ap (λ (xs : List (ℕ × X)). slice_get xs k) (are c)
      ∙ (slice_get-map (beside c) (map see c.methods.now) k
      ∙ (ap (option_map (beside c)) (slice_get-map see c.methods.now k) ∙ twice (slice_get c.methods.now k)))
    where
      twice : (o : Option Method) → option_map (beside c) (option_map see o) ≡ option_map (in_class c) o
      twice None = refl
      twice (Some m) = refl

  -- a method of the first of some classes
  pub counted_first : (cs : List Class) (none : Class) (k : ℕ) (m : Method) → 1 ≤ length cs
      → slice_get (get_or cs 0 none).methods.now k ≡ Some m → Some (in_class (get_or cs 0 none) m) ≡ slice_get (seen_in cs) k
  counted_first [] none k m some at = search rules
  counted_first (c ∷ cs) none k m some at = get_first (methods (of c)) (seen_in cs) k (in_class c m) (in_front c k ∙ ap (option_map (in_class c)) at)

  -- a method of the others
  pub counted_later : (cs : List Class) (none : Class) (k : ℕ) (r : Option (ℕ × X)) → 1 ≤ length cs → slice_get (get_or cs 0 none).methods.now k ≡ None
      → r ≡ slice_get (seen_in (take (length cs - 1) (drop 1 cs))) (k - length (get_or cs 0 none).methods.now) → r ≡ slice_get (seen_in cs) k
  counted_later [] none k r some at later = search rules
  counted_later (c ∷ cs) none k r some at later =
      let seen : length (map (beside c) (map see c.methods.now)) ≡ length c.methods.now = grind (arith, common_steps) in
      let as_long : length (methods (of c)) ≡ length c.methods.now = ap length (are c) ∙ seen in
      later
      ∙ (ap (λ (xs : List Class). slice_get (seen_in xs) (k - length c.methods.now)) (others_are c cs)
      ∙ (ap (λ (n : ℕ). slice_get (seen_in cs) (k - n)) (sym as_long)
      ∙ get_second (methods (of c)) (seen_in cs) k (in_front c k ∙ ap (option_map (in_class c)) at)))

-- what all elements pass, one of them passes
passes_at : {X : Type 0} (test : X → Bool) (xs : List X) (k : ℕ) (x : X) → list_all test xs ≡ true → Some x ≡ slice_get xs k → test x ≡ true
passes_at test [] k x all at = search rules
passes_at test (y ∷ xs) zero x all at = grind arith
passes_at test (y ∷ xs) (suc k) x all at = passes_at test xs k x (grind arith) at

-- no method has more than 8 fields
abbrev has_few : ℕ × MethodNames → Bool
has_few m = nat_lt (length m.1.fields) 9

-- the same of one that is found
pub few_found : (r : Option MethodAt) (k : ℕ) → option_map located r ≡ slice_get all_methods k → IfSome r (λ m. length m.method.fields.now ≤ 8)
few_found None k found = tt
few_found (Some m) k found =
    let few : has_few (located m) ≡ true = passes_at has_few all_methods k (located m) refl found in
    let as_long : length (map field_name m.method.fields.now) ≡ length m.method.fields.now = grind (arith, common_steps) in
    grind (arith, few, as_long)

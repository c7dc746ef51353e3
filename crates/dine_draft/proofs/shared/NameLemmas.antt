-- The names of the sites so far, as a set of texts.
use Rattle.std.proofs.Common.{◌≡◌, ℕ, ◌+◌, ◌<◌, Bool, true, false, ◌||◌, List, [], ◌∷◌, ◌++◌, map, length, take, get_or, Bor, string_bytes, Ordering, Less, Equal, Greater, is_eq, nat_cmp, refl, sym, ap, ◌∙◌, arith}
use Rattle.std.specs.List.{list_any, list_all}
use Rattle.std.specs.Fmt.{decimal}
use Rattle.std.specs.Str.{bytes_eq}
use Rattle.std.specs.Str.Parse.{AllDigits}
use Rattle.std.specs.Cmp.Lexicographic.{slice_cmp}
use Rattle.std.specs.Ordering.{match_ordering}
use Rattle.std.specs.BTreeMap.{is_at}
use Rattle.std.specs.BTreeSet.{insert_key}
use Rattle.std.proofs.lemmas.Bool.{le-leb}
use Rattle.std.proofs.lemmas.Fmt.{decimal_is_IsNumeral, length-decimal-le}
use Rattle.std.proofs.lemmas.Str.Parse.{digit_from_value}
use Rattle.std.proofs.lemmas.List.{take_more, map_push, get_or-map, take-map, length-map}
use Rattle.std.proofs.lemmas.List.Folds.{list_any-append}
use Rattle.std.proofs.lemmas.Map.Text.{is_eq-slice_cmp}
use Rattle.std.proofs.lemmas.Slice.Eq.{bytes_eq-Decides}
use Rattle.dine_graph.specs.Plan.{SeenSite, is_name, is_name_byte}
use Rattle.dine_graph.specs.Site.{seen_site}
use Rattle.dine_graph.specs.declared.plans.Site.{Site}
use Rattle.dine_draft.specs.Draft.{names_of}
use Rattle.dine_draft.specs.Refusals.{stands_before}

-- the order of the set's keys
abbrev pub text_cmp : Bor (List ℕ) → Bor (List ℕ) → Ordering
text_cmp x y = slice_cmp nat_cmp x.now y.now

pub contains-texts : (keys : List (Bor (List ℕ))) (key : Bor (List ℕ)) → list_any (is_at (text_cmp key)) keys ≡ list_any (λ y. bytes_eq key.now y.now) keys
contains-texts [] key = refl
contains-texts (x ∷ xs) key = rw (is_eq-slice_cmp key.now x.now, contains-texts xs key)

or_twice : (a b : Bool) → (a || b) ≡ (a || (a || b))
or_twice true b = refl
or_twice false b = refl

or_swap : (a b c : Bool) → (a || (b || c)) ≡ (b || (a || c))
or_swap true true c = refl
or_swap true false c = refl
or_swap false true c = refl
or_swap false false c = refl

or_last : (a b : Bool) → (a || b) ≡ (b || (a || false))
or_last true true = refl
or_last true false = refl
or_last false true = refl
or_last false false = refl

same_text : (a b : List ℕ) → slice_cmp nat_cmp a b ≡ Equal → a ≡ b
same_text a b equal = (bytes_eq-Decides a b).0 (sym (is_eq-slice_cmp a b) ∙ ap is_eq equal)

inserted_at : (o : Ordering) (q : List ℕ) (key x : Bor (List ℕ)) (xs : List (Bor (List ℕ))) → text_cmp key x ≡ o
    → list_any (λ y. bytes_eq q y.now) (insert_key text_cmp xs key) ≡ (bytes_eq q key.now || list_any (λ y. bytes_eq q y.now) xs)
    → list_any (λ y. bytes_eq q y.now) (match_ordering o (key ∷ x ∷ xs) (x ∷ xs) (x ∷ insert_key text_cmp xs key)) ≡ (bytes_eq q key.now || (bytes_eq q x.now || list_any (λ y. bytes_eq q y.now) xs))
inserted_at Less q key x xs order rest = refl
inserted_at Equal q key x xs order rest =
    rw (same_text key.now x.now order) (or_twice (bytes_eq q x.now) (list_any (λ y. bytes_eq q y.now) xs))
inserted_at Greater q key x xs order rest =
    ap (λ b. bytes_eq q x.now || b) rest ∙ or_swap (bytes_eq q x.now) (bytes_eq q key.now) (list_any (λ y. bytes_eq q y.now) xs)

-- which texts a set holds after an insert
pub any-insert_key : (q : List ℕ) (keys : List (Bor (List ℕ))) (key : Bor (List ℕ)) → list_any (λ y. bytes_eq q y.now) (insert_key text_cmp keys key) ≡ (bytes_eq q key.now || list_any (λ y. bytes_eq q y.now) keys)
any-insert_key q [] key = refl
any-insert_key q (x ∷ xs) key = inserted_at (text_cmp key x) q key x xs refl (any-insert_key q xs key)

-- the names of the sites
abbrev pub names_seen : List Site → List (List ℕ)
names_seen sites = names_of (map seen_site sites)

pub length-names_seen : (sites : List Site) → length (names_seen sites) ≡ length sites
length-names_seen sites = length-map (map seen_site sites) _ ∙ length-map sites seen_site

pub names_seen-at : (sites : List Site) (i : ℕ) (site : Site) → i < length sites → site ≡ get_or sites i site → get_or (names_seen sites) i [] ≡ string_bytes site.name
names_seen-at sites i site within is =
    let long : length (map seen_site sites) ≡ length sites = length-map sites seen_site in
    get_or-map _ (map seen_site sites) i (seen_site site) [] (omega arith) ∙ ap (λ (x : SeenSite). x.name) (get_or-map seen_site sites i site (seen_site site) within ∙ ap seen_site (sym is))

pub names_seen-take : (sites : List Site) (i : ℕ) → take i (names_seen sites) ≡ names_seen (take i sites)
names_seen-take sites i = take-map _ i (map seen_site sites) ∙ ap names_of (take-map seen_site i sites)

-- whether the name of the site at i is one of those before it
pub name_stands_before : (sites : List Site) (i : ℕ) (site : Site) (b : Bool) → i < length sites → site ≡ get_or sites i site → b ≡ list_any (bytes_eq (string_bytes site.name)) (names_seen (take i sites)) → stands_before bytes_eq [] (names_seen sites) i ≡ b
unfolding stands_before
name_stands_before sites i site b within is answer =
    rw (names_seen-at sites i site within is, names_seen-take sites i) (sym answer)

-- one more name
pub any-names_more : (q : List ℕ) (sites : List Site) (i : ℕ) (site : Site) → i < length sites → site ≡ get_or sites i site → list_any (bytes_eq q) (names_seen (take (i + 1) sites)) ≡ (bytes_eq q (string_bytes site.name) || list_any (bytes_eq q) (names_seen (take i sites)))
any-names_more q sites i site within is =
    let more : names_seen (take (i + 1) sites) ≡ names_seen (take i sites) ++ string_bytes site.name ∷ [] =
    ap names_seen (take_more sites i site within) ∙ ap names_of (map_push seen_site (take i sites) (get_or sites i site)) ∙ map_push _ (map seen_site (take i sites)) (seen_site (get_or sites i site))
    ∙ ap (λ (x : Site). names_seen (take i sites) ++ string_bytes x.name ∷ []) (sym is) in
    ap (list_any (bytes_eq q)) more ∙ list_any-append (bytes_eq q) (names_seen (take i sites)) (string_bytes site.name ∷ []) ∙ sym (or_last (bytes_eq q (string_bytes site.name)) (list_any (bytes_eq q) (names_seen (take i sites))))

-- digits are bytes of a name
digits_are_names : (ds : List ℕ) → AllDigits 10 ds → list_all is_name_byte ds ≡ true
digits_are_names [] h = refl
digits_are_names (d ∷ ds) h =
    let within = digit_from_value d h.0 in
    let first : is_name_byte d ≡ true = rw (le-leb 48 d within.0, le-leb d 57 within.1) refl in
    rw (first, digits_are_names ds h.1)

-- a number is a name
pub decimal_is_name : (n : ℕ) → n < 18446744073709551616 → is_name (decimal n) ≡ true
decimal_is_name n small =
    let digits = (decimal_is_IsNumeral n (omega arith)).0 in
    let few = length-decimal-le 20 n (omega arith) (omega arith) (omega arith) in
    rw (le-leb 1 (length (decimal n)) digits.0, le-leb (length (decimal n)) 32 (omega arith)) (digits_are_names (decimal n) digits.1)

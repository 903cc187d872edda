-- Lists of operands: what each of them is, where each is something; their bytes joined, as many as their form says.
use Rattle.pac_asm_line.proofs.Common.{Arithmetic, Err, List, Ok, OperationFault, OrFault, ap, append_assoc}
use Rattle.pac_asm_line.proofs.Common.{first_operation_fault, joined_bytes, refl, ℕ, ◌≡◌, ContentError, ContentGives, Data, DataPart, IfOk}
use Rattle.pac_asm_line.proofs.Common.{IfSome, IsValid, Option, Result, Some, Tree, [], arith, byte_value, bytes_in, gathered_bytes}
use Rattle.pac_asm_line.proofs.Common.{high_byte, length, length-append, low_byte, map_unless_fault, part_bytes, part_size, result_map_both}
use Rattle.pac_asm_line.proofs.Common.{sum_by, sum_by-cons, text, value, word_bytes, word_value, ℤ, ◌*◌, ◌++◌, ◌+◌, ◌∙◌, ◌∷◌, Bool, Lexeme}
use Rattle.pac_asm_line.proofs.Common.{None, Token, atom, each_or_none, expression_in, false, here, if◌then◌else◌, is_comma}
use Rattle.pac_asm_line.proofs.Common.{is_reserved_token, is_some, length-map, length-slice_split, list_all, list_any, map, one_or_more}
use Rattle.pac_asm_line.proofs.Common.{option_and_then, option_map, option_map_or, option_or, part_in, part_of_tokens, parts_at_commas}
use Rattle.pac_asm_line.proofs.Common.{slice_split, spelled_tree, text_in, tree_in, true, unwrap_or, views, ◌&&◌, ◌<◌, ◌==◌, ◌≤◌}

-- ---- bytes one after another: the order of joining makes no difference

first-assoc : (a b c : OperationFault) →
    first_operation_fault (first_operation_fault a b) c ≡ first_operation_fault a (first_operation_fault b c)
first-assoc Arithmetic Arithmetic Arithmetic = refl
first-assoc a b c = refl

pub joined-assoc : (a b c : OrFault (List ℕ)) → joined_bytes (joined_bytes a b) c ≡ joined_bytes a (joined_bytes b c)
joined-assoc (Ok x) (Ok y) (Ok z) = ap Ok (append_assoc x y z)
joined-assoc (Err e) (Err f) (Err g) = ap Err (first-assoc e f g)
joined-assoc (Ok x) (Err f) (Ok z) = refl
joined-assoc (Err e) (Ok y) (Ok z) = refl
joined-assoc a b c = refl

-- ---- the bytes of operands are as many as their form says

-- bytes joined to others
joined-length : (a b : OrFault (List ℕ)) (m n : ℕ) (bytes : List ℕ) → ((xs : List ℕ) → a ≡ Ok xs → length xs ≡ m)
    → ((ys : List ℕ) → b ≡ Ok ys → length ys ≡ n) → joined_bytes a b ≡ Ok bytes → length bytes ≡ m + n
joined-length (Ok xs) (Ok ys) m n bytes first second same =
    let e : bytes ≡ xs ++ ys = cc in
    let p : length xs ≡ m = first xs refl in
    let q : length ys ≡ n = second ys refl in
    rw (e, length-append xs ys, p, q) refl
joined-length (Err fault) (Ok ys) m n bytes first second same = cc
joined-length a b m n bytes first second same = cc

gathered-length : {X : Type 0} (f : X → OrFault (List ℕ)) (size : X → ℕ) →
    ((x : X) (bytes : List ℕ) → f x ≡ Ok bytes → length bytes ≡ size x) → (xs : List X) (bytes : List ℕ) →
    gathered_bytes f xs ≡ Ok bytes → length bytes ≡ sum_by size xs
gathered-length f size each [] bytes same = let e : bytes ≡ [] = cc in rw e refl
gathered-length f size each (x ∷ xs) bytes same =
    rw (sum_by-cons size x xs)
    (joined-length (f x) (gathered_bytes f xs) (size x) (sum_by size xs) bytes (each x) (gathered-length f size each xs) same)

made-length : (given : OrFault ℕ) (f : ℕ → List ℕ) (n : ℕ) (bytes : List ℕ) → ((k : ℕ) → length (f k) ≡ n) →
    map_unless_fault f given ≡ Ok bytes → length bytes ≡ n
made-length (Ok k) f n bytes each same = let e : bytes ≡ f k = cc in rw e (each k)
made-length (Err fault) f n bytes each same = cc

part-length : (names : List ℕ → Option ℤ) (place : ℕ) (part : DataPart) (bytes : List ℕ) →
    part_bytes names place part ≡ Ok bytes → length bytes ≡ part_size part
part-length names place (text characters) bytes same = let e : bytes ≡ characters = cc in rw e refl
part-length names place (value tree) bytes same = made-length (byte_value names place tree) (λ byte. byte ∷ []) 1 bytes (λ k. refl) same

pub parts-length : (names : List ℕ → Option ℤ) (place : ℕ) (parts : List DataPart) (bytes : List ℕ) →
    gathered_bytes (part_bytes names place) parts ≡ Ok bytes → length bytes ≡ sum_by part_size parts
parts-length names place parts bytes same =
    gathered-length (part_bytes names place) part_size (part-length names place) parts bytes same

two-each : (trees : List Tree) → sum_by (λ tree. 2) trees ≡ 2 * length trees
two-each [] = refl
two-each (tree ∷ trees) = rw (sum_by-cons (λ tree. 2) tree trees, two-each trees) (omega arith)

word-length : (names : List ℕ → Option ℤ) (place : ℕ) (tree : Tree) (bytes : List ℕ) →
    word_bytes names place tree ≡ Ok bytes → length bytes ≡ 2
word-length names place tree bytes same =
    made-length (word_value names place tree) (λ word. low_byte word ∷ high_byte word ∷ []) 2 bytes (λ k. refl) same

pub words-length : (names : List ℕ → Option ℤ) (place : ℕ) (trees : List Tree) (bytes : List ℕ) →
    gathered_bytes (word_bytes names place) trees ≡ Ok bytes → length bytes ≡ 2 * length trees
words-length names place trees bytes same =
    gathered-length (word_bytes names place) (λ tree. 2) (word-length names place) trees bytes same ∙ two-each trees

-- bytes that are placed, where those that are given have so many
pub sized-as : {X : Type 0} (view : X → List ℕ) (found : Result X ContentError) (given : OrFault (List ℕ)) (size : ℕ) →
    ContentGives view found given → ((bytes : List ℕ) → given ≡ Ok bytes → length bytes ≡ size) →
    IfOk (result_map_both (λ v. Some (Data (view v))) (λ error. error) found)
    (λ placed. IfSome placed (λ content. IsValid content × (length (bytes_in content) ≡ size)))
sized-as view (Ok v) given size e fits = (tt, fits (view v) e)
sized-as view (Err error) given size e fits = tt

-- ---- lists of operands: what each of them is, where each is something

-- what an item and the items after it are together
each-step : {X Y : Type 0} (g : X → Y) (x : X) (xs : List X) (found : Option Y) (others : Option (List Y)) (all : Bool) →
    ((y : Y) → found ≡ Some y → g x ≡ y) → others ≡ (if all then Some (map g xs) else None) →
    option_and_then (λ y. option_map (λ ys. y ∷ ys) others) found ≡ (if is_some found && all then Some (map g (x ∷ xs)) else None)
each-step g x xs None others all agree same = refl
each-step g x xs (Some y) others true agree same = rw (same, agree y refl) refl
each-step g x xs (Some y) others false agree same = rw same refl

pub each-all : {X Y : Type 0} (f : X → Option Y) (g : X → Y) → ((x : X) (y : Y) → f x ≡ Some y → g x ≡ y) → (xs : List X) →
    each_or_none f xs ≡ (if list_all (λ x. is_some (f x)) xs then Some (map g xs) else None)
each-all f g agree [] = refl
each-all f g agree (x ∷ xs) =
    each-step g x xs (f x) (each_or_none f xs) (list_all (λ x. is_some (f x)) xs) (agree x) (each-all f g agree xs)

-- parting gives one part at least
pub split-some : {X : Type 0} (p : X → Bool) (xs : List X) → 0 < length (slice_split p xs)
split-some p xs = rw (length-slice_split p xs) (omega arith)

-- expressions that something is, with one before them
some-first : (n : ℕ) (first : Option Tree) (others : Option (List Tree)) → IfSome others (λ all. n ≤ length all) →
    IfSome (option_and_then (λ y. option_map (λ ys. y ∷ ys) others) first) (λ all. n < length all)
some-first n (Some x) (Some ys) more = omega arith
some-first n first others more = tt

none-or-more : (others : Option (List Tree)) → IfSome others (λ all. 0 ≤ length all)
none-or-more None = tt
none-or-more (Some ys) = omega arith

pub too-many : (f : List Lexeme → Option Tree) (a : List Lexeme) (rest : List (List Lexeme)) → 0 < length rest →
    IfSome (each_or_none f (a ∷ rest)) (λ all. 1 < length all)
too-many f a [] filled = absurd (omega (arith, filled))
too-many f a (b ∷ rest) filled =
    some-first 1 (f a) (each_or_none f (b ∷ rest)) (some-first 0 (f b) (each_or_none f rest) (none-or-more (each_or_none f rest)))

-- one operand or more
one-or-more : {X Y : Type 0} (make : List X → Y) (all : Bool) (xs : List X) → 0 < length xs →
    one_or_more make (if all then Some xs else None) ≡ (if all then Some (make xs) else None)
one-or-more make true [] filled = absurd (omega (arith, filled))
one-or-more make all xs filled = refl

pub some-of : {X Y Z : Type 0} (make : List Y → Z) (f : X → Option Y) (g : X → Y) → ((x : X) (y : Y) → f x ≡ Some y → g x ≡ y) →
    (xs : List X) → 0 < length xs →
    one_or_more make (each_or_none f xs) ≡ (if list_all (λ x. is_some (f x)) xs then Some (make (map g xs)) else None)
some-of make f g agree xs filled =
    rw (each-all f g agree xs) (one-or-more make (list_all (λ x. is_some (f x)) xs) (map g xs) (simp length-map filled))

-- the tree of an expression is the one that its tokens spell
under : (reserved : Bool) (found : Option Tree) (t : Tree) → (if reserved then None else found) ≡ Some t → unwrap_or found (atom here) ≡ t
under false (Some other) t same = cc
under reserved found t same = cc

pub spelled-of : (tokens : List Lexeme) (t : Tree) → expression_in tokens ≡ Some t → spelled_tree tokens ≡ t
unfolding expression_in
spelled-of tokens t same = under (list_any is_reserved_token tokens) (tree_in tokens) t same

part-by : (found : Option (List ℕ)) (tree : Option Tree) (other : Tree) (p : DataPart) → ((t : Tree) → tree ≡ Some t → other ≡ t) →
    option_or (option_map text found) (option_map value tree) ≡ Some p → option_map_or text found (value other) ≡ p
part-by None (Some t) other p agree same = let e : other ≡ t = agree t refl in cc
part-by found tree other p agree same = cc

pub part-of : (tokens : List Lexeme) (p : DataPart) → part_in tokens ≡ Some p → part_of_tokens tokens ≡ p
part-of tokens p same = part-by (text_in tokens) (expression_in tokens) (spelled_tree tokens) p (spelled-of tokens) same

-- where there are tokens, their parts are what their commas part
pub parts-by : (tokens : List Token) → (length tokens == 0) ≡ false → parts_at_commas (views tokens) ≡ slice_split is_comma (views tokens)
parts-by [] filled = cc
parts-by (token ∷ tokens) filled = refl

-- what is made of operands, each of which is something
pub made-by : {Y Z : Type 0} (make : List Y → Z) (f : List Lexeme → Option Y) (g : List Lexeme → Y)
    → ((part : List Lexeme) (y : Y) → f part ≡ Some y → g part ≡ y) → (tokens : List Token) (all : Bool) → (length tokens == 0) ≡ false
    → all ≡ list_all (λ part. is_some (f part)) (slice_split is_comma (views tokens))
    → one_or_more make (each_or_none f (parts_at_commas (views tokens)))
    ≡ (if all then Some (make (map g (parts_at_commas (views tokens)))) else None)
made-by make f g agree tokens all filled same =
    rw (parts-by tokens filled, same) (some-of make f g agree _ (split-some is_comma (views tokens)))

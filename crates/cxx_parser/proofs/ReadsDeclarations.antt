-- Declarations that are spelled are read.
use Rattle.cxx_ast.specs.Written.{in_full}
use Rattle.std.specs.Prelude.{ℕ, suc, ◌+◌, ◌-◌, ◌≡◌, ◌≤◌, ℤ, pos, negsuc, neg_ℤ, Bool, true, false, List, [], ◌∷◌, ◌++◌, Option, Some, None, length, map, refl}
use Rattle.std.proofs.Common.{ap, sym, ◌∙◌, subst, arith, append_assoc}
use Rattle.std.proofs.lemmas.List.{append-nil}
use Rattle.cxx_ast.specs.declared.declaration.FuncKind.{FuncKind}
use Rattle.cxx_ast.specs.declared.declaration.FuncKind.TheVariants.{Plain, Method, Constructor, Destructor}
use Rattle.cxx_ast.specs.declared.keyword.Keyword.TheVariants as keyword
use Rattle.cxx_ast.specs.declared.mark.Mark.TheVariants as sign
use Rattle.cxx_ast.specs.declared.name.Name.{Name}
use Rattle.cxx_ast.specs.declared.token.TokenKind.TheVariants as kind
use Rattle.cxx_ast.specs.declared.types.Param.{Param}
use Rattle.cxx_ast.specs.declared.types.Ty.{Ty}
use Rattle.cxx_ast.specs.declared.types.Ty.TheVariants.{Int, Void, Object, IntRef, ObjectRef}
use Rattle.cxx_ast.specs.Depth.{below_function, below_functions, declaration_depth, depth}
use Rattle.cxx_ast.specs.Grammatical.{Each, There, IsMemberType, IsResult, HasForm, IsFunction, IsMemberKind, IsMember, IsStart, IsGrammatical}
use Rattle.cxx_ast.specs.Piece.{Piece, named, word, mark}
use Rattle.cxx_ast.specs.Plain.{Function, Declaration, global_declaration}
use Rattle.cxx_ast.specs.Spelling.{spell_class, spell_type, spell_name}
use Rattle.cxx_ast.specs.Written.{Member, data_member, function_member, Start, no_start, start, Written, written_class, written_global, written_function, data_members, functions, declared, spell_params, spell_specification, spell_initialisers, spell_body, spell_function, spell_result, spell_tilde, spell_members, spell_base, spell_start_value, spell_declaration, spell_declarations}
use Rattle.cxx_parser.specs.Classes.{kind_in, empty_class, with_member, have_value}
use Rattle.cxx_parser.specs.Contexts.{OpenClass, Heading, Holder, of_program, of_class, of_int, of_void, of_destructor, of_class_name, of_base}
use Rattle.cxx_parser.specs.Functions.{with_function, have_function}
use Rattle.cxx_parser.specs.Reading.{feed}
use Rattle.cxx_parser.specs.States.{State, expect, want_name, after_params_open, after_params, after_declared, after_class_name, after_class_colon, in_class, after_member_name, after_assign, after_minus, want_declaration}
use Rattle.cxx_parser.proofs.Lengths.{rest_of}
use Rattle.cxx_parser.proofs.Past.{Leads, free, stays, next, ends_as, with_room, kind_leads, name_leads}
use Rattle.cxx_parser.proofs.ReadsFunctions.{heading_of, reads_behind_params, reads_rest}
use Rattle.cxx_parser.proofs.ReadsTypes.{begins_as, plain_spelled}

-- where a declaration or a member may begin
abbrev pub at_holder : Holder → State
at_holder (of_program ds) = want_declaration ds
at_holder (of_class c) = in_class c

-- a class with further members
abbrev with_members : OpenClass → List Member → OpenClass
with_members c ms = record { name = c.name; base = c.base; members = c.members ++ data_members ms; functions = c.functions ++ functions ms; before = c.before }

module _ (limit total : ℕ) where
  -- `int` or `void` and a name
  begins_int : (H : Holder) (x : List Piece) → Leads limit total (word keyword.Int ∷ x) (at_holder H) x (want_name (of_int (total - suc (length x)) H))
  unfolding feed
  begins_int (of_program ds) x = kind_leads (kind.Word keyword.Int) (want_declaration ds) (want_name (of_int (total - suc (length x)) (of_program ds))) (λ n place i. ap (λ (q : ℕ). want_name (of_int q (of_program ds))) (omega (arith, i)))
  begins_int (of_class c) x = kind_leads (kind.Word keyword.Int) (in_class c) (want_name (of_int (total - suc (length x)) (of_class c))) (λ n place i. ap (λ (q : ℕ). want_name (of_int q (of_class c))) (omega (arith, i)))

  begins_void : (H : Holder) (x : List Piece) → Leads limit total (word keyword.Void ∷ x) (at_holder H) x (want_name (of_void (total - suc (length x)) H))
  unfolding feed
  begins_void (of_program ds) x = kind_leads (kind.Word keyword.Void) (want_declaration ds) (want_name (of_void (total - suc (length x)) (of_program ds))) (λ n place i. ap (λ (q : ℕ). want_name (of_void q (of_program ds))) (omega (arith, i)))
  begins_void (of_class c) x = kind_leads (kind.Word keyword.Void) (in_class c) (want_name (of_void (total - suc (length x)) (of_class c))) (λ n place i. ap (λ (q : ℕ). want_name (of_void q (of_class c))) (omega (arith, i)))

  reads_int_name : (m : Name) (at : ℕ) (H : Holder) (x : List Piece) → Leads limit total (named m ∷ x) (want_name (of_int at H)) x (after_declared m at H)
  unfolding feed
  reads_int_name m at H x = name_leads m (want_name (of_int at H)) (λ o. after_declared o at H) (λ n i. refl)

  -- the heading of a function with a result
  reads_heading : (result : Ty) → IsResult result → (m : Name) (H : Holder) (x : List Piece) → Leads limit total (spell_type result (named m ∷ mark sign.OpenParen ∷ x)) (at_holder H) x (after_params_open (record { kind = kind_in H; result = result; name = m; start = total - length (spell_type result (named m ∷ mark sign.OpenParen ∷ x)); holder = H }))
  unfolding feed
  reads_heading Int g m H x =
      next (begins_int H (named m ∷ mark sign.OpenParen ∷ x))
      (next (reads_int_name m (total - suc (length (named m ∷ mark sign.OpenParen ∷ x))) H (mark sign.OpenParen ∷ x))
      (kind_leads (kind.Mark sign.OpenParen) (after_declared m (total - suc (length (named m ∷ mark sign.OpenParen ∷ x))) H) (after_params_open (record { kind = kind_in H; result = Int; name = m; start = total - suc (length (named m ∷ mark sign.OpenParen ∷ x)); holder = H })) (λ n place i. refl)))
  reads_heading Void g m H x =
      let at : ℕ = total - suc (length (named m ∷ mark sign.OpenParen ∷ x)) in
      next (begins_void H (named m ∷ mark sign.OpenParen ∷ x))
      (next (name_leads m (want_name (of_void at H)) (λ o. expect (kind.Mark sign.OpenParen) (after_params_open (record { kind = kind_in H; result = Void; name = o; start = at; holder = H }))) (λ n i. refl))
      (kind_leads (kind.Mark sign.OpenParen) (expect (kind.Mark sign.OpenParen) (after_params_open (record { kind = kind_in H; result = Void; name = m; start = at; holder = H }))) (after_params_open (record { kind = kind_in H; result = Void; name = m; start = at; holder = H })) (λ n place i. refl)))
  reads_heading (Object c) g m H x = absurd g
  reads_heading (IntRef const) g m H x = absurd g
  reads_heading (ObjectRef const c) g m H x = absurd g

  -- a function with a result
  reads_with_result : (f : Function) → IsFunction f → IsResult f.result → (H : Holder) → kind_in H ≡ f.kind → ((y : List Piece) → spell_result f.kind f.result y ≡ spell_type f.result y) → (x : List Piece) → below_function f + 1 ≤ limit → Leads limit total (spell_function f x) (at_holder H) x (have_function f H)
  reads_with_result f g r H k s x l =
      let pieces : spell_function f x ≡ spell_type f.result (named f.name ∷ mark sign.OpenParen ∷ rest_of f x) = s (named f.name ∷ mark sign.OpenParen ∷ rest_of f x) in
      with_room (λ room. begins_as (spell_function f x) (spell_type f.result (named f.name ∷ mark sign.OpenParen ∷ rest_of f x)) pieces
      (next (reads_heading f.result r f.name H (rest_of f x))
      (next (ends_as (after_params_open (heading_of limit total f H x))
      (ap (λ q. after_params_open (record { kind = q; result = f.result; name = f.name; start = total - length (spell_type f.result (named f.name ∷ mark sign.OpenParen ∷ rest_of f x)); holder = H })) k
      ∙ ap (λ (q : List Piece). after_params_open (record { kind = f.kind; result = f.result; name = f.name; start = total - length q; holder = H })) (sym pieces)) stays)
      (reads_rest limit total f g H x l room))))

  -- a constructor
  reads_constructor : (f : Function) → IsFunction f → f.kind ≡ Constructor → f.result ≡ Void → (c : OpenClass) (x : List Piece) → below_function f + 1 ≤ limit → Leads limit total (spell_function f x) (in_class c) x (in_class (with_function c f))
  unfolding feed
  reads_constructor f g k r c x l =
      let pieces : spell_function f x ≡ named f.name ∷ mark sign.OpenParen ∷ rest_of f x = ap (λ (q : FuncKind). spell_result q f.result (named f.name ∷ mark sign.OpenParen ∷ rest_of f x)) k in
      let at : ℕ = total - suc (length (mark sign.OpenParen ∷ rest_of f x)) in
      with_room (λ room. begins_as (spell_function f x) (named f.name ∷ mark sign.OpenParen ∷ rest_of f x) pieces
      (next (name_leads f.name (in_class c) (λ o. after_member_name o at c) (λ n i. ap (λ (q : ℕ). after_member_name (free f.name) q c) (omega (arith, i))))
      (next (kind_leads (kind.Mark sign.OpenParen) (after_member_name f.name at c) (after_params_open (heading_of limit total f (of_class c) x))
      (λ n place i. ap (λ (q : FuncKind). after_params_open (record { kind = q; result = Void; name = f.name; start = at; holder = of_class c })) (sym k)
      ∙ ap (λ (q : Ty). after_params_open (record { kind = f.kind; result = q; name = f.name; start = at; holder = of_class c })) (sym r)
      ∙ ap (λ (q : List Piece). after_params_open (record { kind = f.kind; result = f.result; name = f.name; start = total - length q; holder = of_class c })) (sym pieces)))
      (reads_rest limit total f g (of_class c) x l room))))

  -- a destructor
  reads_destructor : (f : Function) → IsFunction f → f.kind ≡ Destructor → f.result ≡ Void → f.parameters ≡ [] → (c : OpenClass) (x : List Piece) → below_function f + 1 ≤ limit → Leads limit total (mark sign.Tilde ∷ spell_function f x) (in_class c) x (in_class (with_function c f))
  unfolding feed
  reads_destructor f g k r p c x l =
      let tail : List Piece = spell_specification (in_full f) f.specification (spell_initialisers f.initialisers (spell_body f.body x)) in
      let pieces : spell_function f x ≡ named f.name ∷ mark sign.OpenParen ∷ mark sign.CloseParen ∷ tail =
      ap (λ (q : FuncKind). spell_result q f.result (named f.name ∷ mark sign.OpenParen ∷ rest_of f x)) k ∙ ap (λ (q : List Param). named f.name ∷ mark sign.OpenParen ∷ spell_params q (mark sign.CloseParen ∷ tail)) p in
      let at : ℕ = total - length (named f.name ∷ mark sign.OpenParen ∷ mark sign.CloseParen ∷ tail) in
      let h : Heading = record { kind = Destructor; result = Void; name = f.name; start = at; holder = of_class c } in
      with_room (λ room. begins_as (mark sign.Tilde ∷ spell_function f x) (mark sign.Tilde ∷ named f.name ∷ mark sign.OpenParen ∷ mark sign.CloseParen ∷ tail) (ap (λ (q : List Piece). mark sign.Tilde ∷ q) pieces)
      (next (kind_leads (kind.Mark sign.Tilde) (in_class c) (want_name (of_destructor at c)) (λ n place i. ap (λ (q : ℕ). want_name (of_destructor q c)) (omega (arith, i))))
      (next (name_leads f.name (want_name (of_destructor at c)) (λ o. expect (kind.Mark sign.OpenParen) (expect (kind.Mark sign.CloseParen) (after_params [] (record { kind = Destructor; result = Void; name = o; start = at; holder = of_class c })))) (λ n i. refl))
      (next (kind_leads (kind.Mark sign.OpenParen) (expect (kind.Mark sign.OpenParen) (expect (kind.Mark sign.CloseParen) (after_params [] h))) (expect (kind.Mark sign.CloseParen) (after_params [] h)) (λ n place i. refl))
      (next (kind_leads (kind.Mark sign.CloseParen) (expect (kind.Mark sign.CloseParen) (after_params [] h)) (after_params f.parameters (heading_of limit total f (of_class c) x))
      (λ n place i. ap (λ (q : List Param). after_params q h) (sym p)
      ∙ ap (λ (q : FuncKind). after_params f.parameters (record { kind = q; result = Void; name = f.name; start = at; holder = of_class c })) (sym k)
      ∙ ap (λ (q : Ty). after_params f.parameters (record { kind = f.kind; result = q; name = f.name; start = at; holder = of_class c })) (sym r)
      ∙ ap (λ (q : List Piece). after_params f.parameters (record { kind = f.kind; result = f.result; name = f.name; start = total - length q; holder = of_class c })) (sym pieces)))
      (reads_behind_params limit total f g (of_class c) x l (omega (arith, room))))))))

  -- a function of a class
  reads_function_member : (k : FuncKind) (f : Function) → f.kind ≡ k → IsFunction f → HasForm k f → IsMemberKind k → (c : OpenClass) (x : List Piece) → below_function f + 1 ≤ limit → Leads limit total (spell_tilde f.kind (spell_function f x)) (in_class c) x (in_class (with_function c f))
  reads_function_member Plain f e g h m c x l = absurd m
  reads_function_member Method f e g h m c x l =
      begins_as (spell_tilde f.kind (spell_function f x)) (spell_function f x) (ap (λ (q : FuncKind). spell_tilde q (spell_function f x)) e)
      (reads_with_result f g h.0 (of_class c) (sym e) (λ y. ap (λ (q : FuncKind). spell_result q f.result y) e) x l)
  reads_function_member Constructor f e g h m c x l =
      begins_as (spell_tilde f.kind (spell_function f x)) (spell_function f x) (ap (λ (q : FuncKind). spell_tilde q (spell_function f x)) e) (reads_constructor f g e h.0 c x l)
  reads_function_member Destructor f e g h m c x l =
      begins_as (spell_tilde f.kind (spell_function f x)) (mark sign.Tilde ∷ spell_function f x) (ap (λ (q : FuncKind). spell_tilde q (spell_function f x)) e) (reads_destructor f g e h.0 h.2 c x l)

  -- a data member
  reads_data_member : (ty : Ty) (name : Option Name) → IsMemberType ty → There name → (c : OpenClass) (x : List Piece) → Leads limit total (spell_type ty (spell_name name (mark sign.Semicolon ∷ x))) (in_class c) x (in_class (with_member c (record { ty = ty; name = name })))
  unfolding feed
  reads_data_member ty None g h c x = absurd h
  reads_data_member Int (Some m) g h c x =
      let at : ℕ = total - suc (length (named m ∷ mark sign.Semicolon ∷ x)) in
      next (begins_int (of_class c) (named m ∷ mark sign.Semicolon ∷ x))
      (next (reads_int_name m at (of_class c) (mark sign.Semicolon ∷ x))
      (kind_leads (kind.Mark sign.Semicolon) (after_declared m at (of_class c)) (in_class (with_member c (record { ty = Int; name = Some m }))) (λ n place i. refl)))
  reads_data_member (Object k) (Some m) g h c x =
      let at : ℕ = total - suc (length (named m ∷ mark sign.Semicolon ∷ x)) in
      let s : State = in_class (with_member c (record { ty = Object k; name = Some m })) in
      begins_as (spell_class k (named m ∷ mark sign.Semicolon ∷ x)) (named k ∷ named m ∷ mark sign.Semicolon ∷ x) (plain_spelled k (named m ∷ mark sign.Semicolon ∷ x) g)
      (next (name_leads k (in_class c) (λ o. after_member_name o at c) (λ n i. ap (λ (q : ℕ). after_member_name (free k) q c) (omega (arith, i))))
      (next (name_leads m (after_member_name k at c) (λ o. expect (kind.Mark sign.Semicolon) (in_class (with_member c (record { ty = Object k; name = Some o })))) (λ n i. rw g refl))
      (kind_leads (kind.Mark sign.Semicolon) (expect (kind.Mark sign.Semicolon) s) s (λ n place i. refl))))
  reads_data_member Void (Some m) g h c x = absurd g
  reads_data_member (IntRef const) (Some m) g h c x = absurd g
  reads_data_member (ObjectRef const k) (Some m) g h c x = absurd g

  -- the members of a class
  reads_members : (ms : List Member) → Each IsMember ms → (c : OpenClass) (x : List Piece) → below_functions (functions ms) ≤ limit → Leads limit total (spell_members ms x) (in_class c) x (in_class (with_members c ms))
  reads_members [] g c x l =
      ends_as (in_class (with_members c [])) (ap (λ (q : List Param). in_class (record { name = c.name; base = c.base; members = q; functions = c.functions; before = c.before })) (sym (append-nil c.members))
      ∙ ap (λ (q : List Function). in_class (record { name = c.name; base = c.base; members = c.members ++ []; functions = q; before = c.before })) (sym (append-nil c.functions))) stays
  reads_members (data_member p ∷ ms) g c x l =
      next (reads_data_member p.ty p.name g.0.0 g.0.1 c (spell_members ms x))
      (ends_as (in_class (with_members c (data_member p ∷ ms))) (ap (λ (q : List Param). in_class (record { name = c.name; base = c.base; members = q; functions = c.functions ++ functions ms; before = c.before })) (append_assoc c.members (p ∷ []) (data_members ms)))
      (reads_members ms g.1 (with_member c p) x l))
  reads_members (function_member f ∷ ms) g c x l =
      next (reads_function_member f.kind f refl g.0.0 g.0.0.form g.0.1 c (spell_members ms x) (omega (arith, l)))
      (ends_as (in_class (with_members c (function_member f ∷ ms))) (ap (λ (q : List Function). in_class (record { name = c.name; base = c.base; members = c.members ++ data_members ms; functions = q; before = c.before })) (append_assoc c.functions (f ∷ []) (functions ms)))
      (reads_members ms g.1 (with_function c f) x (omega (arith, l))))

  -- a class up to its members
  reads_base : (n : Name) (is_public : Bool) (base : Option Name) (ds : List Declaration) (x : List Piece) → Leads limit total (spell_base is_public base (mark sign.OpenBrace ∷ x)) (after_class_name n ds) x (in_class (empty_class n base ds))
  unfolding feed
  reads_base n is_public None ds x = kind_leads (kind.Mark sign.OpenBrace) (after_class_name n ds) (in_class (empty_class n None ds)) (λ at place i. refl)
  reads_base n true (Some b) ds x =
      next (kind_leads (kind.Mark sign.Colon) (after_class_name n ds) (after_class_colon n ds) (λ at place i. refl))
      (next (kind_leads (kind.Word keyword.Public) (after_class_colon n ds) (want_name (of_base n ds)) (λ at place i. refl))
      (next (name_leads b (want_name (of_base n ds)) (λ o. expect (kind.Mark sign.OpenBrace) (in_class (empty_class n (Some o) ds))) (λ at i. refl))
      (kind_leads (kind.Mark sign.OpenBrace) (expect (kind.Mark sign.OpenBrace) (in_class (empty_class n (Some b) ds))) (in_class (empty_class n (Some b) ds)) (λ at place i. refl))))
  reads_base n false (Some b) ds x =
      next (kind_leads (kind.Mark sign.Colon) (after_class_name n ds) (after_class_colon n ds) (λ at place i. refl))
      (next (name_leads b (after_class_colon n ds) (λ o. expect (kind.Mark sign.OpenBrace) (in_class (empty_class n (Some o) ds))) (λ at i. refl))
      (kind_leads (kind.Mark sign.OpenBrace) (expect (kind.Mark sign.OpenBrace) (in_class (empty_class n (Some b) ds))) (in_class (empty_class n (Some b) ds)) (λ at place i. refl)))

  -- a class
  reads_class_declaration : (n : Name) (is_public : Bool) (base : Option Name) (ms : List Member) → Each IsMember ms → (ds : List Declaration) (x : List Piece) → below_functions (functions ms) ≤ limit → Leads limit total (spell_declaration (written_class n is_public base ms) x) (want_declaration ds) x (want_declaration (ds ++ (declared (written_class n is_public base ms) ∷ [])))
  unfolding feed
  reads_class_declaration n is_public base ms g ds x l =
      let s : State = want_declaration (ds ++ (declared (written_class n is_public base ms) ∷ [])) in
      next (kind_leads (kind.Word keyword.Struct) (want_declaration ds) (want_name (of_class_name ds)) (λ at place i. refl))
      (next (name_leads n (want_name (of_class_name ds)) (λ o. after_class_name o ds) (λ at i. refl))
      (next (reads_base n is_public base ds (spell_members ms (mark sign.CloseBrace ∷ mark sign.Semicolon ∷ x)))
      (next (reads_members ms g (empty_class n base ds) (mark sign.CloseBrace ∷ mark sign.Semicolon ∷ x) l)
      (next (kind_leads (kind.Mark sign.CloseBrace) (in_class (with_members (empty_class n base ds) ms)) (expect (kind.Mark sign.Semicolon) s) (λ at place i. refl))
      (kind_leads (kind.Mark sign.Semicolon) (expect (kind.Mark sign.Semicolon) s) s (λ at place i. refl))))))

  -- a global
  reads_value : (n : Name) (v : ℤ) (ds : List Declaration) (x : List Piece) → Leads limit total (mark sign.Semicolon ∷ x) (have_value n v ds) x (want_declaration (ds ++ (global_declaration n v ∷ [])))
  unfolding feed
  reads_value n v ds x = kind_leads (kind.Mark sign.Semicolon) (have_value n v ds) (want_declaration (ds ++ (global_declaration n v ∷ []))) (λ at place i. refl)

  reads_start : (n : Name) (s : Start) → IsStart s → (at : ℕ) (ds : List Declaration) (x : List Piece) → Leads limit total (spell_start_value s (mark sign.Semicolon ∷ x)) (after_declared n at (of_program ds)) x (want_declaration (ds ++ (declared (written_global n s) ∷ [])))
  unfolding feed
  reads_start n no_start g at ds x = kind_leads (kind.Mark sign.Semicolon) (after_declared n at (of_program ds)) (want_declaration (ds ++ (global_declaration n (pos 0) ∷ []))) (λ m place i. refl)
  reads_start n (start minus (negsuc v)) g at ds x = absurd g
  reads_start n (start true (pos v)) g at ds x =
      next (kind_leads (kind.Mark sign.Assign) (after_declared n at (of_program ds)) (after_assign n ds) (λ m place i. refl))
      (next (kind_leads (kind.Mark sign.Minus) (after_assign n ds) (after_minus n ds) (λ m place i. refl))
      (next (kind_leads (kind.Number (pos v)) (after_minus n ds) (have_value n (neg_ℤ (pos v)) ds) (λ m place i. refl)) (reads_value n (neg_ℤ (pos v)) ds x)))
  reads_start n (start false (pos v)) g at ds x =
      next (kind_leads (kind.Mark sign.Assign) (after_declared n at (of_program ds)) (after_assign n ds) (λ m place i. refl))
      (next (kind_leads (kind.Number (pos v)) (after_assign n ds) (have_value n (pos v) ds) (λ m place i. refl)) (reads_value n (pos v) ds x))

  -- a declaration
  reads_declaration : (w : Written) → IsGrammatical w → (ds : List Declaration) (x : List Piece) → declaration_depth (declared w) ≤ limit → Leads limit total (spell_declaration w x) (want_declaration ds) x (want_declaration (ds ++ (declared w ∷ [])))
  reads_declaration (written_class n is_public base ms) g ds x l = reads_class_declaration n is_public base ms g ds x (omega (arith, l))
  reads_declaration (written_global n s) g ds x l =
      let y : List Piece = spell_start_value s (mark sign.Semicolon ∷ x) in
      next (begins_int (of_program ds) (named n ∷ y)) (next (reads_int_name n (total - suc (length (named n ∷ y))) (of_program ds) y) (reads_start n s g (total - suc (length (named n ∷ y))) ds x))
  reads_declaration (written_function f) g ds x l =
      let form : HasForm Plain f = subst (λ (q : FuncKind). HasForm q f) g.1 g.0.form in
      reads_with_result f g.0 form.0 (of_program ds) (sym g.1) (λ y. ap (λ (q : FuncKind). spell_result q f.result y) g.1) x l

  -- declarations
  pub reads_declarations : (ws : List Written) → Each IsGrammatical ws → (ds : List Declaration) → depth (map declared ws) ≤ limit → Leads limit total (spell_declarations ws []) (want_declaration ds) [] (want_declaration (ds ++ map declared ws))
  reads_declarations [] g ds l = ends_as (want_declaration (ds ++ [])) (ap want_declaration (sym (append-nil ds))) stays
  reads_declarations (w ∷ ws) g ds l =
      next (reads_declaration w g.0 ds (spell_declarations ws []) (omega (arith, l)))
      (ends_as (want_declaration (ds ++ (declared w ∷ map declared ws))) (ap want_declaration (append_assoc ds (declared w ∷ []) (map declared ws))) (reads_declarations ws g.1 (ds ++ (declared w ∷ [])) (omega (arith, l))))

-- Computations under limits, under which an image of eight sections grows, with what holds of what they give.
-- Assumes nothing.
use Rattle.std.specs.Prelude.{ℕ, ◌≡◌, refl, Bool, true, false, cond}
use Rattle.std.proofs.Common.{◌∙◌}
use mathlib.Core.List.{List, [], ◌∷◌, ◌++◌}
use Rattle.std.proofs.Math.Option.{Option, none, some}
use Rattle.rl_spec.specs.declared.Section.{Section}
use Rattle.rl_spec.specs.declared.Section.TheVariants.{Texts, Lists, Expressions, Statements}
use Rattle.rl_spec.specs.Image.{Field, num, Rec, Image}
use Rattle.rl_spec.specs.Make.{Context, Make, and_then, counted, take_temp, each, with_image, with_bytes, append, made, new_text, new_list, stmt}
use Rattle.rl_spec.specs.Lower.{expr}
use Rattle.rl_images.specs.Lowering.Gives.{Gives, stops, gives, after, weaker, given_is}
use Rattle.rl_images.specs.Lowering.Grows.{Grows, grows_same, grows_on, Eight, Growing, appended_grows, bytes_grow, Appended, append_gives, NewText, text_gives, text_records, NewList, list_gives, list_records}

infixr 1 ◌▷◌ ◌▹◌
infixr 20 ◌⊕◌
-- ---- a later context: the image has grown; the temporaries may be more

pub record Later (c d : Context) : Type 0 where
  pub image : Grows c.image d.image
  pub span : d.span ≡ c.span
  pub is_result : d.is_result ≡ c.is_result
  pub limited : d.limited ≡ c.limited

pub now : {c : Context} → Later c c
now = record { image = grows_same; span = refl; is_result = refl; limited = refl }

pub ◌⊕◌ : {a b c : Context} → Later a b → Later b c → Later a c
◌⊕◌ p q =
    record {
      image = grows_on p.image q.image;
      span = q.span ∙ p.span;
      is_result = q.is_result ∙ p.is_result;
      limited = q.limited ∙ p.limited;
    }

pub eight_later : {c d : Context} → Later c d → Eight c.image → Eight d.image
eight_later p e = p.image.sections ∙ e

-- eight sections, and limits
pub record Limited (c : Context) : Type 0 where
  pub sections : Eight c.image
  pub limits : c.limited ≡ true

limited_later : {c d : Context} → Later c d → Limited c → Limited d
limited_later p e = record { sections = eight_later p e.sections; limits = p.limited ∙ e.limits }

-- ---- what is given, and the context then, which is a later one

pub record GrowsTo {A : Type 0} (ctx : Context) (Q : A → Context → Type 0) (o : Option (A × Context)) : Type 0 where
  pub makes : Limited ctx → Gives (λ a c. Later ctx c × Q a c) o

pub ◌▷◌ : {A B : Type 0} {ctx : Context} {P : A → Context → Type 0} {Q : B → Context → Type 0} {o : Option (A × Context)} {f : A → Make B} →
    GrowsTo ctx P o → ((a : A) (c : Context) → Later ctx c → P a c → GrowsTo c Q (f a c)) → GrowsTo ctx Q (and_then o f)
◌▷◌ g k =
    record { makes = λ e. after (g.makes e) λ a c p. weaker ((k a c p.0 p.1).makes (limited_later p.0 e)) λ b d q. (p.0 ⊕ q.0, q.1) }

pub ◌▹◌ : {A : Type 0} {ctx : Context} {P Q : A → Context → Type 0} {o : Option (A × Context)} →
    GrowsTo ctx P o → ((a : A) (c : Context) → Later ctx c → P a c → Q a c) → GrowsTo ctx Q o
◌▹◌ g k = record { makes = λ e. weaker (g.makes e) λ a c p. (p.0, k a c p.0 p.1) }

pub given : {A : Type 0} {ctx : Context} {Q : A → Context → Type 0} {a : A} → Q a ctx → GrowsTo ctx Q (some (a, ctx))
given q = record { makes = λ e. gives (now, q) }

pub stopped : {A : Type 0} {ctx : Context} {Q : A → Context → Type 0} → GrowsTo ctx Q none
stopped = record { makes = λ e. stops }

-- a case distinction
pub test : {A : Type 0} {Q : A → Context → Type 0} (b : Bool) (m n : Make A) (ctx : Context) →
    (b ≡ true → GrowsTo ctx Q (m ctx)) → (b ≡ false → GrowsTo ctx Q (n ctx)) → GrowsTo ctx Q (cond b m n ctx)
test true m n ctx p q = p refl
test false m n ctx p q = q refl

pub good_is : {A : Type 0} {ctx : Context} {Q : A → Context → Type 0} {o : Option (A × Context)} {a : A} {c : Context} →
    GrowsTo ctx Q o → Limited ctx → o ≡ some (a, c) → Later ctx c × Q a c
good_is g e h = given_is (g.makes e) h

-- nothing but growth
abbrev pub Anything : {A : Type 0} → A → Context → Type 0
Anything a c = Unit {0}

pub only_grows : {A : Type 0} {ctx : Context} {P : A → Context → Type 0} {o : Option (A × Context)} → GrowsTo ctx P o → GrowsTo ctx Anything o
only_grows g = g ▹ λ a c k p. tt

-- what holds under a premise
pub under : {A X : Type 0} {ctx : Context} {Q : X → A → Context → Type 0} {o : Option (A × Context)} →
    GrowsTo ctx Anything o → ((x : X) → GrowsTo ctx (Q x) o) → GrowsTo ctx (λ a c. (x : X) → Q x a c) o
under {A} {X} {ctx} {Q} g f = record { makes = λ e. go (g.makes e) (λ x. (f x).makes e) }
  where
    go : {o : Option (A × Context)} → Gives (λ a c. Later ctx c × Unit {0}) o → ((x : X) → Gives (λ a c. Later ctx c × Q x a c) o) →
        Gives (λ a c. Later ctx c × ((x : X) → Q x a c)) o
    go stops f = stops
    go (gives p) f = gives (p.0, λ x. (given_is (f x) refl).1)

-- ---- each making

pub with_later : {ctx : Context} {im : Image} → Grows ctx.image im → Later ctx (with_image ctx im)
with_later g = record { image = g; span = refl; is_result = refl; limited = refl }

pub append_good : (o : Section) → Growing o → (rs : List Rec) (ctx : Context) → GrowsTo ctx (Appended ctx o rs) (append o rs ctx)
append_good o k rs ctx =
    record { makes = λ e. weaker (append_gives o rs ctx) λ n c h. (rw h.is (with_later (appended_grows ctx.image o rs k e.sections)), h) }

pub text_good : (s : List ℕ) (ctx : Context) → GrowsTo ctx (NewText ctx s) (new_text s ctx)
text_good s ctx = record {
  makes = λ e. weaker (text_gives s ctx) λ n c h.
      let texts = appended_grows (with_bytes ctx.image (ctx.image.bytes ++ s)) Texts (text_records ctx.image s) tt e.sections in
      (rw h.is (with_later (grows_on (bytes_grow ctx.image s) texts)), h);
}

pub list_good : (ns : List ℕ) (ctx : Context) → GrowsTo ctx (NewList ctx ns) (new_list ns ctx)
list_good ns ctx =
    record {
      makes = λ e. weaker (list_gives ns ctx) λ n c h.
          (rw h.is (with_later (appended_grows ctx.image Lists (list_records ns) tt e.sections)), h);
    }

pub stmt_good : (kind span : ℕ) (fields : List Field) (ctx : Context) →
    GrowsTo ctx (Appended ctx Statements (made kind (num span ∷ fields) ∷ [])) (stmt kind span fields ctx)
unfolding stmt
stmt_good kind span fields ctx = append_good Statements tt _ ctx

pub expr_good : (kind : ℕ) (fields : List Field) (ctx : Context) →
    GrowsTo ctx (Appended ctx Expressions (made kind (num ctx.span ∷ fields) ∷ [])) (expr kind fields ctx)
unfolding expr
expr_good kind fields ctx = append_good Expressions tt _ ctx

-- a temporary's number
pub temp_good : (ctx : Context) → GrowsTo ctx (λ n c. (n ≡ ctx.temp_counter) × (c ≡ counted ctx)) (take_temp ctx)
temp_good ctx = record { makes = λ e. gives (record { image = grows_same; span = refl; is_result = refl; limited = refl }, (refl, refl)) }

-- ---- one after the other: P is asked of each input, and Q holds of it and its output; growth keeps both

pub data Every {A : Type 0} (P : A → Context → Type 0) (c : Context) : List A → Type 0 where
  no_more : Every P c []
  more : {a : A} {l : List A} → P a c → Every P c l → Every P c (a ∷ l)

pub data Pairs {A B : Type 0} (Q : A → B → Context → Type 0) (c : Context) : List A → List B → Type 0 where
  no_pairs : Pairs Q c [] []
  a_pair : {a : A} {b : B} {l : List A} {m : List B} → Q a b c → Pairs Q c l m → Pairs Q c (a ∷ l) (b ∷ m)

abbrev pub Kept : {A : Type 0} → (A → Context → Type 0) → Type 0
Kept {A} P = (a : A) (c d : Context) → Later c d → P a c → P a d

module _ {A B : Type 0} (P : A → Context → Type 0) (Q : A → B → Context → Type 0) (keep_p : Kept P) (keepQ : (a : A) → Kept (Q a))
    (f : A → Make B) (step : (a : A) (c : Context) → P a c → GrowsTo c (Q a) (f a c)) where
  keep_every : {c d : Context} {l : List A} → Later c d → Every P c l → Every P d l
  keep_every k no_more = no_more
  keep_every {c} {d} k (more {a = a} p ps) = more (keep_p a c d k p) (keep_every k ps)

  pub each_good : (l : List A) (c : Context) → Every P c l → GrowsTo c (λ m d. Pairs Q d l m) (each f l c)
  unfolding each
  each_good [] c no_more = given no_pairs
  each_good (a ∷ l) c (more p ps) =
      step a c p ▷ λ b d k q. each_good l d (keep_every k ps) ▷ λ bs e k' qs. given (a_pair (keepQ a b d e k' q) qs)

-- The commands that are ones on the view that is meant, without a check.
use Rattle.std.specs.Prelude.{◌≡◌, ℕ, List, Option, None, Some, Result, Ok, Err, refl}
use Rattle.std.proofs.Common.{inl, inr, sym, subst}
use Rattle.apfs_model.specs.Lists.{and_then}
use Rattle.cmd_words.specs.Asked.{AskedTarget}
use Rattle.view_rules.specs.Facts.{Facts}
use Rattle.path_search.specs.Listing.{listing}
use Rattle.path_search.specs.Texts.{ls_text}
use Rattle.view_tree.specs.Texts.{tree_text}
use Rattle.view_tree.specs.Tree as trees
use Rattle.path_search.specs.declared.answer.Answer.{Answer}
use Rattle.path_search.proofs.Laws.{IsPathAnswer, listing_answers}
use Rattle.view_tree.proofs.Laws.{tree_answers}
use Rattle.path_read.specs.Attributes.{attributes}
use Rattle.path_read.specs.Texts.{xattr_text}
use Rattle.path_read.proofs.Laws.{IsFileAnswer, IsAttributeAnswer, contents_answers, attributes_answers, attribute_answers}
use Rattle.cmd_texts.specs.Commands.Ls as ls
use Rattle.cmd_texts.specs.Commands.Tree as tree
use Rattle.cmd_texts.specs.Commands.Cat as cat
use Rattle.cmd_texts.specs.Commands.Xattr as xattr
use Rattle.cmd_lines.specs.declared.words.Checks.TheVariants.{Quick}
use Rattle.cmd_lines.specs.Words.{Ls, Tree, Cat, Xattr}
use Rattle.cmd_texts.proofs.ByAnswers.{IsOfPath}
use Rattle.cmd_texts.proofs.OverView.{IsOverView}

-- NotFound and NotDirectory are answers of a path
path_is_of : (answer : Answer) → IsPathAnswer answer → IsOfPath answer
path_is_of answer (inl same) = let P : Answer → Type 0 = λ a. IsOfPath a in subst P (sym same) tt
path_is_of answer (inr same) = let P : Answer → Type 0 = λ a. IsOfPath a in subst P (sym same) tt

-- the answers of a text are those of what it is made of
text_answers : {U : Type 0} (wanted : Result U Answer) (text : U → List ℕ) (answer : Answer) → ((a : Answer) → wanted ≡ Err a → IsPathAnswer a) →
    ◌≡◌ {A = Result (List ℕ) Answer} (and_then wanted (λ x. Ok (text x))) (Err answer) → IsOfPath answer
text_answers (Ok x) text answer answers e = absurd Prim.cc
text_answers {U} (Err a) text answer answers e =
    let same : a ≡ answer = Prim.cc in
    let P : Answer → Type 0 = λ b. IsPathAnswer b in
    path_is_of answer (subst P same (answers a refl))

-- `ls` is one
pub ls_over : (target : AskedTarget) → IsOverView (Ls Quick target) (ls.wanted target.path) (ls.told target.path) target
ls_over target = record {
  lead_is = refl;
  rests = λ image rests. rests;
  text = λ image text is. is;
  text_is = λ image text is. is;
  answer = λ image answer is. is;
  answer_is = λ image answer is. is;
  fault_is = λ image fault there. there;
  feature_is = λ image feature block there. there;
  of_path = λ size image facts answer e. text_answers (listing facts target.path) ls_text answer (listing_answers facts target.path) e;
}

-- `tree` is one
pub tree_over : (target : AskedTarget) → IsOverView (Tree Quick target) (tree.wanted target.path) (tree.told target.path) target
tree_over target = record {
  lead_is = refl;
  rests = λ image rests. rests;
  text = λ image text is. is;
  text_is = λ image text is. is;
  answer = λ image answer is. is;
  answer_is = λ image answer is. is;
  fault_is = λ image fault there. there;
  feature_is = λ image feature block there. there;
  of_path = λ size image facts answer e. text_answers (trees.tree facts target.path) tree_text answer (tree_answers facts target.path) e;
}

-- so are those of contents
file_is_of : (answer : Answer) → IsFileAnswer answer → IsOfPath answer
file_is_of answer (inl path) = path_is_of answer path
file_is_of answer (inr (inl same)) = let P : Answer → Type 0 = λ a. IsOfPath a in subst P (sym same) tt
file_is_of answer (inr (inr (inl same))) = let P : Answer → Type 0 = λ a. IsOfPath a in subst P (sym same) tt
file_is_of answer (inr (inr (inr same))) = let P : Answer → Type 0 = λ a. IsOfPath a in subst P (sym same) tt

-- and of an attribute
attribute_is_of : (answer : Answer) → IsAttributeAnswer answer → IsOfPath answer
attribute_is_of answer (inl path) = path_is_of answer path
attribute_is_of answer (inr same) = let P : Answer → Type 0 = λ a. IsOfPath a in subst P (sym same) tt

-- `cat` is one
pub cat_over : (target : AskedTarget) → IsOverView (Cat Quick target) (cat.wanted target.path) (cat.told target.path) target
cat_over target = record {
  lead_is = refl;
  rests = λ image rests. rests;
  text = λ image text is. is;
  text_is = λ image text is. is;
  answer = λ image answer is. is;
  answer_is = λ image answer is. is;
  fault_is = λ image fault there. there;
  feature_is = λ image feature block there. there;
  of_path = λ size image facts answer e. file_is_of answer (contents_answers size image facts target.path answer e);
}

-- the answers of `xattr`
xattr_answers : (path : List ℕ) (name : Option (List ℕ)) (size : ℕ) (image : List ℕ) (facts : Facts) (answer : Answer) → xattr.wanted path name size image facts ≡ Err answer → IsOfPath answer
xattr_answers path None size image facts answer e = text_answers (attributes facts path) xattr_text answer (attributes_answers facts path) e
xattr_answers path (Some name) size image facts answer e = attribute_is_of answer (attribute_answers size image facts path name answer e)

-- `xattr` is one
pub xattr_over : (target : AskedTarget) (name : Option (List ℕ)) → IsOverView (Xattr Quick target name) (xattr.wanted target.path name) (xattr.told target.path) target
xattr_over target name = record {
  lead_is = refl;
  rests = λ image rests. rests;
  text = λ image text is. is;
  text_is = λ image text is. is;
  answer = λ image answer is. is;
  answer_is = λ image answer is. is;
  fault_is = λ image fault there. there;
  feature_is = λ image feature block there. there;
  of_path = λ size image facts answer e. xattr_answers target.path name size image facts answer e;
}

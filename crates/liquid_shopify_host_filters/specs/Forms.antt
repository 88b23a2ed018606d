-- `form`: the element that Shopify writes around a form, as its documentation shows it.
-- The input is what stands in the form, the first argument the form's kind, and the second what the
-- form is for. What they are is written as it is.
use Rattle.std.specs.Prelude.{List, [], ◌∷◌, ◌++◌, Option, Some, None, Ok, Err, codes, bytes_eq}
use Rattle.std.specs.Prelude.{if◌then◌else◌}
use Rattle.std.specs.Option.{option_and_then}
use Rattle.liquid_model.specs.Data.{Datum, text, text_of}
use Rattle.liquid_model.specs.Texts.{Text}
use Rattle.liquid_model.specs.Arguments.{Answer, first_of}
use Rattle.liquid_model.specs.declared.error.ErrorKind.TheVariants.{InvalidArgument}
use Rattle.liquid_filters.specs.Sequences.{property}

-- where a form goes, and its attributes before and after those that all forms have
pub record FormParts : Type 0 where
  pub action : Text
  pub id : Text
  pub class : Text

abbrev pub form_parts : Text → Text → Text → FormParts
form_parts action id class = record { action = action; id = id; class = class }

abbrev pub cart_parts : FormParts
cart_parts = form_parts (codes "/cart") (codes " id=\"cart_form\"")
    (codes " class=\"shopify-cart-form\" enctype=\"multipart/form-data\"")

abbrev pub contact_parts : FormParts
contact_parts = form_parts (codes "/contact#contact_form") (codes " id=\"contact_form\"")
    (codes " class=\"contact-form\"")

abbrev pub new_customer_parts : FormParts
new_customer_parts = form_parts (codes "/account") (codes " id=\"create_customer\"")
    (codes " data-login-with-shop-sign-up=\"true\"")

abbrev pub login_parts : FormParts
login_parts = form_parts (codes "/account/login") (codes " id=\"customer_login\"")
    (codes " data-login-with-shop-sign-in=\"true\"")

abbrev pub password_parts : FormParts
password_parts = form_parts (codes "/password") (codes " id=\"login_form\"")
    (codes " class=\"storefront-password-form\"")

-- of the kinds that are for nothing
abbrev pub plain_parts : Text → Option FormParts
plain_parts kind =
    if bytes_eq kind (codes "cart") then Some cart_parts
    else (if bytes_eq kind (codes "contact") then Some contact_parts
    else (if bytes_eq kind (codes "customer") then Some contact_parts
    else (if bytes_eq kind (codes "create_customer") then Some new_customer_parts
    else (if bytes_eq kind (codes "customer_login") then Some login_parts
    else (if bytes_eq kind (codes "recover_customer_password")
    then Some (form_parts (codes "/account/recover") [] [])
    else (if bytes_eq kind (codes "storefront_password") then Some password_parts
    else None))))))

-- the bytes of U+2713
abbrev pub check_mark : Text
check_mark = 226 ∷ 156 ∷ 147 ∷ []

-- a form of a kind, with what stands in it
abbrev pub form_element : Text → FormParts → Text → Text
form_element kind parts body =
    codes "<form method=\"post\" action=\"" ++ (parts.action ++ (codes "\"" ++ (parts.id ++
    (codes " accept-charset=\"UTF-8\"" ++ (parts.class ++
    (codes "><input type=\"hidden\" name=\"form_type\" value=\"" ++ (kind ++
    (codes "\" /><input type=\"hidden\" name=\"utf8\" value=\"" ++ (check_mark ++
    (codes "\" />" ++ (body ++ codes "</form>")))))))))))

-- of a product, by its number, which stands once more at the end
abbrev pub product_parts : Text → FormParts
product_parts id = form_parts (codes "/cart/add")
    (codes " id=\"product_form_" ++ (id ++ codes "\""))
    (codes " class=\"shopify-product-form\" enctype=\"multipart/form-data\"")

abbrev pub with_product : Text → Text → Text
with_product body id =
    body ++ (codes "<input type=\"hidden\" name=\"product-id\" value=\"" ++
    (id ++ codes "\" />"))

-- of an article, by its address
abbrev pub comment_parts : Text → FormParts
comment_parts url = form_parts (url ++ codes "/comments#comment_form")
    (codes " id=\"comment_form\"") (codes " class=\"comment-form\"")

abbrev pub product_element : Text → Text → Text
product_element body id =
    form_element (codes "product") (product_parts id) (with_product body id)

abbrev pub comment_element : Text → Text → Text
comment_element body url = form_element (codes "new_comment") (comment_parts url) body

-- the number and the address must be there
abbrev pub product_form : Text → Option Datum → Answer
product_form body (Some id) = Ok (text (product_element body (text_of id)))
product_form body None = Err InvalidArgument

abbrev pub comment_form : Text → Option Datum → Answer
comment_form body (Some url) = Ok (text (comment_element body (text_of url)))
comment_form body None = Err InvalidArgument

abbrev pub bare_form : Text → Text → Option FormParts → Answer
bare_form kind body (Some parts) = Ok (text (form_element kind parts body))
bare_form kind body None = Err InvalidArgument

-- the member of what the form is for
abbrev pub subject_member : Text → Option Datum → Option Datum
subject_member name subject = option_and_then (property name) subject

abbrev pub shop_form : Text → Text → Option Datum → Answer
shop_form kind body subject =
    if bytes_eq kind (codes "product") then product_form body (subject_member (codes "id") subject)
    else (if bytes_eq kind (codes "new_comment")
    then comment_form body (subject_member (codes "url") subject)
    else bare_form kind body (plain_parts kind))

-- `form`
abbrev pub form_answer : Datum → List Datum → Answer
form_answer d [] = Err InvalidArgument
form_answer d (kind ∷ args) = shop_form (text_of kind) (text_of d) (first_of args)

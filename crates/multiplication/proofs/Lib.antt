pub mod MalformedLaws

pub mod SyntaxApps
